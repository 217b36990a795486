use Rattle.filter.specs.Parts.{step_at}
use Rattle.tasks.specs.Masked.{masked}
use Rattle.search.proofs.Choosing.{alone, lowest_first, removers_first}
use Rattle.search.proofs.choose.Choice.first_half.Goals as goal

pub returns-in-Some : goal.returns-in-Some
returns-in-Some c =
    let s = c.args.self in
    let w = s.within in
    removers_first (masked w.snapshot.now) w.part.now.part s.step w.own s.below _ c.in-Some.ensures
    c.removers.result c.removers.ensures.value c.common.result c.common.ensures.value

pub returns-in-Some-lowest : goal.returns-in-Some-lowest
returns-in-Some-lowest c =
    let s = c.args.self in
    let w = s.within in
    let m = masked w.snapshot.now in
    let p = w.part.now.part in
    lowest_first m p s.step w.own s.below c.in_default.ensures c.with.result
    (λ within. alone (step_at p s.step) c.none.result c.with.result c.in-Some-lowest.action m.actions w.own.lawful.actions_most c.in-Some-lowest.ensures.value within c.none.ensures.value c.with.ensures.value)
