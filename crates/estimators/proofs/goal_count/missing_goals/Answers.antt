use Rattle.std.proofs.Common.{arith}
use Rattle.std.proofs.lemmas.Bool.{ltb-false}
use Rattle.sets.specs.Bits.{bit}
use Rattle.estimators.proofs.Gaining.{other_value}
use Rattle.estimators.proofs.goal_count.missing_goals.Goals as goal

pub returns : goal.returns
returns g c = record {
  value = λ f v.
      let law = g.met.T.Task.lawful c.args.task.now in
      rw (c.without.ensures.value f v, c.goals.ensures f v, c.of_state.ensures.value f v)
      (other_value (g.T.Task.goal c.args.task.now f) v (bit c.args.state f) _ (λ past. law.goal_past f (let high = ltb-false f 64 past in omega (arith, law.facts_most))));
}
