use Rattle.std.proofs.Common.{◌≡◌, ℕ, suc, ◌+◌, ◌<◌, Bool, true, length, Ok, Err, sym, ap, ◌∙◌, subst, arith}
use Rattle.std.proofs.lemmas.Result.{err_from_is_err_and}
use Rattle.std.proofs.lemmas.Bool.Decides.{not_from_Decides}
use Rattle.tasks.specs.Masked.{masked}
use Rattle.tasks.specs.States.{after}
use Rattle.tasks.specs.Masking.{masked_lawful}
use Rattle.exhaustive.specs.Sequences.{applicable, sequences}
use Rattle.exhaustive.specs.Tried.{TriedAll, NoneReaches}
use Rattle.exhaustive.proofs.Applicable.{is_applicable}
use Rattle.exhaustive.proofs.Lengths.{same_number, none_moved}
use Rattle.exhaustive.proofs.Passing.{Passed, checked_none, checked_some, empty_spent, empty_tried, not_applying, missing_here, none_reaches, all_paid, too_many}
use Rattle.exhaustive.proofs.extend.+extend.Goals.{else-applies-via-then-applies+in_ok-extend+else-branch, else-applies-via-else-applies}
use Rattle.exhaustive.proofs.extend.+extend.Goals as goal

pub returns-in_err-budget : goal.returns-in_err-budget
returns-in_err-budget t c =
    let m = masked c.args.task.now in
    let p = c.args.plan.now in
    let left = c.args.budget.now in
    let q = err_from_is_err_and c.from_residual.result c.from_residual.ensures.1 in
    let none : left ≡ 0 = checked_none left c.checked_sub.result c.checked_sub.ensures c.in_err-budget.ensures.ok_part in
    rw q.1 (record { value = subst (λ (k : ℕ). TriedAll m c.args.state k left p p (Err q.0)) (sym none) (empty_spent m c.args.state left p q.0 c.in_default.ensures.cases) })

pub returns-in_default : goal.returns-in_default
returns-in_default t c =
    let left = c.in_ok-budget.field-0 in
    let paid : c.args.budget.now ≡ left + 1 = checked_some c.args.budget.now left c.checked_sub.result c.checked_sub.ensures c.in_ok-budget.ensures.ok_part in
    record { value = empty_tried (masked c.args.task.now) c.args.state c.args.budget.now left c.args.plan.now c.in_default.ensures.cases paid c.goals_hold.result c.goals_hold.ensures.value }

pub returns-in_err-extend : goal.returns-in_err-extend
returns-in_err-extend t c =
    let m = masked c.args.task.now in
    let s = c.args.state in
    let a = c.loop-a.a in
    let n = length c.in-Some.rest.now in
    let split = c.in-Some.ensures.cases in
    let same = c.loop-a.invariant in
    let told = c.in_err-extend.ensures.value in
    let test : applicable m s a ≡ true = sym (is_applicable m (masked_lawful c.args.task.now) s a c.applies.result c.applies.ensures.value) ∙ c.if-applies.true in
    let number = same_number m c.after.result (after m s a) _ n c.after.ensures.value (ap length same.1) in
    let short : c.loop-a.budget < sequences m (after m s a) n = subst (λ (k : ℕ). c.loop-a.budget < k) number told.0 in
    let below : a < m.actions = omega (arith, c.loop-a-test.true, c.actions-a-end.ensures) in
    let whole : suc n ≡ length c.args.plan.now = omega (arith, split.1) in
    let q = err_from_is_err_and c.from_residual-in_err-extend.result c.from_residual-in_err-extend.ensures.1 in
    rw q.1 (record { value = (subst (λ (k : ℕ). c.args.budget.now < sequences m s k) whole (too_many m s n _ _ a test below short same.0), cc (told.1, same.1, same.2, split.0)) })

pub loop-a-preserved : goal.loop-a-preserved
loop-a-preserved t c =
    let m = masked c.args.task.now in
    let s = c.args.state in
    let a = c.loop-a.a in
    let n = length c.in-Some.rest.now in
    let same = c.loop-a.invariant in
    let test : c.applies.result ≡ applicable m s a = is_applicable m (masked_lawful c.args.task.now) s a c.applies.result c.applies.ensures.value in
    elim c.else-applies.branch [
      | else-applies-via-then-applies+in_ok-extend+else-branch w ↦
          let told = subst (λ (b : Bool). TriedAll m w.after.result c.loop-a.budget w.extend.new.budget c.loop-a.rest w.extend.new.plan (Ok b)) w.if-branch.false w.in_ok-extend.ensures.value in
          let number = same_number m w.after.result (after m s a) _ n w.after.ensures.value (ap length same.1) in
          let paid : c.loop-a.budget ≡ c.else-applies.budget + sequences m (after m s a) n = omega (arith, told.1, w.budget-is, number) in
          let nothing : NoneReaches m (after m s a) n = none_moved m w.after.result (after m s a) _ n w.after.ensures.value (ap length same.1) told.0 in
          (missing_here m s n _ _ _ a (sym test ∙ w.if-applies.true) paid nothing same.0, w.rest-is ∙ told.2 ∙ same.1, same.2)
      | else-applies-via-else-applies w ↦ (
        subst (λ (left : ℕ). Passed m s n c.args.budget.now left (a + 1)) (sym w.budget-is)
            (not_applying m s n _ _ a (sym test ∙ w.if-applies.false) (not_from_Decides _ c.applies.ensures.value w.if-applies.false) same.0),
        w.rest-is ∙ same.1,
        same.2,
      )
    ]

pub returns : goal.returns
returns t c =
    let m = masked c.args.task.now in
    let s = c.args.state in
    let n = length c.in-Some.rest.now in
    let split = c.in-Some.ensures.cases in
    let same = c.loop-a.invariant in
    let all : c.loop-a.a ≡ m.actions = omega (arith, c.loop-a-test.false, c.loop-a.auto.a-end, c.actions-a-end.ensures) in
    let passed = subst (λ (a : ℕ). Passed m s n c.args.budget.now c.loop-a.budget a) all same.0 in
    let whole : suc n ≡ length c.args.plan.now = omega (arith, split.1) in
    record {
      value = (
        λ acts h. none_reaches m (masked_lawful c.args.task.now) s n _ _ passed acts (h ∙ sym whole),
        subst (λ (k : ℕ). c.args.budget.now ≡ c.loop-a.budget + sequences m s k) whole (all_paid m s n _ _ passed),
        cc (same.1, same.2, split.0),
      );
    }
