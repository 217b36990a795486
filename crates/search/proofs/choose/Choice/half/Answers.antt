use Rattle.std.proofs.Common.{◌<◌, length, arith}
use Rattle.tasks.specs.Masked.{masked}
use Rattle.search.proofs.Partial.{half_stored}
use Rattle.search.proofs.choose.Choice.half.Goals as goal

pub returns : goal.returns
returns c d is =
    let s = c.args.self in
    let w = s.within in
    let p = w.part.now.part in
    let room : s.step < length p.steps = omega (arith, p.wide, s.below, w.part.now.few) in
    half_stored (masked w.snapshot.now) p s.step d room c.args.actions is
