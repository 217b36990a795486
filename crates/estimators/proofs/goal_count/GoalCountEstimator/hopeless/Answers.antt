use Rattle.std.proofs.Common.{◌≡◌, ℕ, ◌*◌, ◌<◌, ◌≤◌, ◌∙◌, arith, rules, tests}
use Rattle.std.proofs.lemmas.Iterator.{cases_from_all}
use Rattle.sets.specs.Counts.{count}
use Rattle.tasks.specs.Bundle.{meaning}
use Rattle.estimators.specs.GoalCounts.{missing_count}
use Rattle.estimators.proofs.Gaining.{gained_many, judged, missing_many, none_missing, tally}
use Rattle.estimators.proofs.Listed.{members_yielded}
use Rattle.estimators.proofs.goal_count.GoalCountEstimator.hopeless.Goals as goal

pub returns-then-many-eq0 : goal.returns-then-many-eq0
returns-then-many-eq0 g c =
    let t = meaning g.T.Task c.args.task.now in
    let law = g.met.T.Task.lawful c.args.task.now in
    let many = c.size.ensures.value ∙ missing_many t law c.args.state c.missing_goals-missing.result c.missing_goals-missing.ensures.value in
    record { value = none_missing t c.args.state c.args.left (omega (arith, c.from-many.ensures)) }

pub returns : goal.returns
returns g c =
    let t = meaning g.T.Task c.args.task.now in
    let law = g.met.T.Task.lawful c.args.task.now in
    let missing = c.missing_goals-missing.result in
    let many = c.from-many.result in
    let is_many : many ≡ missing_count t c.args.state = c.from-many.ensures ∙ c.size.ensures.value ∙ missing_many t law c.args.state missing c.missing_goals-missing.ensures.value in
    let usable = c.usable_actions.result in
    let gain : ℕ → ℕ = λ a. count (tally t a missing) 64 in
    let cases = cases_from_all _ _ c.all.result (λ (a : ℕ). c.args.left * gain a < many) (λ (a : ℕ). many ≤ c.args.left * gain a) c.all.ensures.ran
    (members_yielded usable c.into_iter-usable.result c.into_iter-usable.ensures.into_iter_gives) (λ x q k. search (rules, tests)) (λ x q k. search (rules, tests)) in
    record {
      value = judged t law c.args.state c.args.left many is_many (omega arith) usable c.usable_actions.ensures c.all.result gain
          (gained_many t law c.args.state missing c.missing_goals-missing.ensures.value) cases;
    }
