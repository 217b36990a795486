use Rattle.tasks.specs.Masked.{masked}
use Rattle.search.proofs.Choosing.{begun, gone_on, all_weighed}
use Rattle.search.proofs.choose.Choice.deciding_fact.Goals as goal

pub loop-fact-init : goal.loop-fact-init
loop-fact-init c =
    let s = c.args.self in
    let w = s.within in
    rw c.into_iter-fact-iterator.ensures.into_iter_gives.left
    (begun (masked w.snapshot.now) w.part.now.part s.step w.own s.below c.undecided-fact-items.result c.undecided-fact-items.ensures.value)

pub loop-fact-preserved : goal.loop-fact-preserved
loop-fact-preserved c =
    let s = c.args.self in
    let w = s.within in
    gone_on (masked w.snapshot.now) w.part.now.part s.step w.own s.below _ _ c.loop-fact.best c.in-Some.fact
    c.removers.result c.removers.ensures.value c.distance.result c.distance.ensures c.better-best.result c.better-best.ensures
    c.in-Some.ensures.steps.1 c.loop-fact.invariant

pub returns : goal.returns
returns c =
    let s = c.args.self in
    let w = s.within in
    all_weighed (masked w.snapshot.now) w.part.now.part s.step w.own s.below _ c.loop-fact.best c.in-None.ensures.steps.1.0 c.loop-fact.invariant
