use Rattle.std.proofs.Common.{◌^◌, ◌<◌, rules}
use Rattle.tasks.specs.Masked.{masked}
use Rattle.filter.specs.Parts.{level_at}
use Rattle.search.proofs.Partial.{state_stored}
use Rattle.search.proofs.parts.LeftPart.state_at.Goals as goal

pub returns : goal.returns
returns c =
    let s = c.args.self in
    let p = s.part.now.part in
    let small : (level_at p c.args.level).trues.bits < 2 ^ 64 = search rules in
    state_stored (masked s.snapshot.now) p s.own c.args.level c.requires small
