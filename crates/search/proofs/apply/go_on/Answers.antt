use Rattle.std.proofs.Common.{refl, ap, ◌∙◌}
use Rattle.tasks.specs.Masked.{masked}
use Rattle.search.specs.Entries.{entries_of}
use Rattle.search.specs.Machines.Stage.{unfinished}
use Rattle.search.proofs.Applying.{ends, puts_up}
use Rattle.search.proofs.apply.go_on.Goals as goal

pub returns-in_default : goal.returns-in_default
returns-in_default c =
    let r = c.args.rounds in
    ends (masked c.args.snapshot.now) r.bound r.round (entries_of c.args.stack.now) (c.if-not-is_empty.ensures.0 refl) c.in_default.ensures

pub returns : goal.returns
returns c =
    let r = c.args.rounds in
    let next = c.in-Some.next in
    let goes = c.in-Some.ensures in
    let es' = entries_of c.push_first.new.self in
    ap (λ b. record { stage = unfinished; bound = b; round = next.round; entries = es' }) goes.2
    ∙ puts_up (masked c.args.snapshot.now) r.bound r.round next.round (entries_of c.args.stack.now) es' (c.if-not-is_empty.ensures.0 refl) goes.0 goes.1 c.push_first.ensures
