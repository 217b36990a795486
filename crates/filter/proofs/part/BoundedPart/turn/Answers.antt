use Rattle.std.proofs.Common.{refl, subst}
use Rattle.std.proofs.lemmas.Bool.{both_ways}
use Rattle.tasks.specs.Bundle.{meaning}
use Rattle.filter.specs.declared.stage.StageMasks.{StageMasks}
use Rattle.filter.specs.Revising.{Revised}
use Rattle.filter.proofs.Placing.{unequal}
use Rattle.filter.proofs.Turning.{turned_none, turned_some}
use Rattle.filter.proofs.part.BoundedPart.turn.Goals as goal

pub returns-then-not-is_whole : goal.returns-then-not-is_whole
returns-then-not-is_whole g c =
    let m = meaning g.T.Task c.args.task.now in
    let rev = subst (λ (x : StageMasks). Revised m x c.revise-next.result) c.stage_at-was.ensures.value c.revise-next.ensures.value in
    record {
      value = (
        turned_none m c.args.self.now.part _ c.requires.here c.args.self.now.few _ rev _ c.all_literals.ensures.value
            (λ w. both_ways _ c.if-not-is_whole.true (c.is_whole.ensures.value.1 w)),
        refl,
      );
    }

pub returns : goal.returns
returns g c =
    let m = meaning g.T.Task c.args.task.now in
    let h = c.revise-next.result in
    let is = c.stage_at-was.ensures.value in
    let rev = subst (λ (x : StageMasks). Revised m x h) is c.revise-next.ensures.value in
    let b = unequal _ h.before _ (rw is at c.ne-before.ensures) in
    let a = unequal _ h.after _ (rw is at c.ne-after.ensures) in
    let tc = rw c.put_stage.ensures.value.round at c.touched.ensures.value in
    record {
      value =
          turned_some m c.args.self.now.part _ c.requires.here c.args.self.now.few h rev _ c.all_literals.ensures.value (c.is_whole.ensures.value.0 c.if-not-is_whole.false)
          _ c.put_stage.ensures.value _ _ b.0 a.0 b.1 a.1 c.args.due _ tc;
    }
