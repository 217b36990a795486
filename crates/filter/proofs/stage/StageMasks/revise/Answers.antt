use Rattle.std.proofs.Common.{rules, arith}
use Rattle.filter.proofs.Revision.{revised}
use Rattle.filter.proofs.stage.StageMasks.revise.Goals as goal

pub returns : goal.returns
returns g c = record {
  value =
      revised _ (g.met.T.Task.lawful c.args.task.now) c.args.self _ _ _ c.look_over-seen.ensures.value _ _
      c.all_literals.ensures.value
      (λ f v. cc (c.without.ensures.value f v, c.opposites.ensures.value f v, c.without-required.ensures.value f v))
      (λ f v. cc (c.union.ensures.value f v, c.common.ensures.value f v, c.opposites-2.ensures.value f v, c.without-after.ensures.value f v))
      (λ f v. cc (c.opposites-3.ensures.value f v, c.union-2.ensures.value f v, c.common-2.ensures.value f v, c.opposites-4.ensures.value f v, c.without-before.ensures.value f v))
      (search rules, search rules, search rules, search rules, omega (arith, c.well_formed)) (search rules, search rules, search rules, search rules, search rules);
}
