use Rattle.std.proofs.Common.{◌≡◌, ◌+◌, true, false, refl, arith, rules, tests}
use Rattle.std.proofs.lemmas.Iterator.{cases_from_any, YieldsList-from_range}
use Rattle.search.specs.Advisers.{hopeless_of, recall_of}
use Rattle.search.specs.LeftParts.{left_of, task_of}
use Rattle.search.specs.Steps.{told_of}
use Rattle.search.proofs.Lowest.{some_of_range}
use Rattle.search.proofs.advisers.Advisers.rule_out.Goals as goal

pub returns : goal.returns
returns g c =
    let p = c.args.part in
    let n = c.args.last + 1 in
    let told = told_of (task_of p) (recall_of g.M.Memory c.args.self.now) (hopeless_of g.E.Estimator c.args.self.now (task_of p)) (left_of p) in
    some_of_range n told c.any.result
    (cases_from_any c.any.new.self _ c.any.result (λ i. told i ≡ true) (λ i. told i ≡ false) c.any.ensures.ran (YieldsList-from_range 0 n n refl (omega arith))
    (λ x q k. search (rules, tests)) (λ x q k. search (rules, tests)))
