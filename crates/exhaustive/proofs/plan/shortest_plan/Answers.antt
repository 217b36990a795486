use Rattle.std.proofs.Common.{ℕ, ◌<◌, ◌≤◌, List, ◌++◌, length, take, drop, ap, ◌∙◌, subst, arith, length-take-le, take-append-drop}
use Rattle.std.proofs.lemmas.Result.{err_from_is_err_and}
use Rattle.tasks.specs.Masked.{masked}
use Rattle.tasks.specs.States.{start_state}
use Rattle.exhaustive.proofs.Lengths.{is_spent, same_number}
use Rattle.exhaustive.proofs.plan.shortest_plan.Goals as goal

pub returns-in_err-extend : goal.returns-in_err-extend
returns-in_err-extend g c =
    let m = masked c.of-snapshot.result in
    let n = c.loop-n.n in
    let p = c.loop-n.plan in
    let told = c.in_err-extend.ensures.value in
    let few : n ≤ length p = omega (arith, c.loop-n-test.true, c.loop-n.auto.plan) in
    let number = same_number m c.start-state.result (start_state m) (length (take n p)) n c.start-state.ensures.value (length-take-le n p few) in
    let q = err_from_is_err_and c.from_residual.result c.from_residual.ensures.1 in
    rw (q.1, ← c.of-snapshot.ensures.value) (record {
      value = (
        is_spent m c.args.budget c.loop-n.left n (length c.args.plan.now) (subst (λ (k : ℕ). c.loop-n.left < k) number told.0) c.loop-n-test.true c.loop-n.invariant.0,
        ap (λ (l : List ℕ). l ++ drop n p) told.1 ∙ take-append-drop n p ∙ c.loop-n.invariant.1,
      );
    })
