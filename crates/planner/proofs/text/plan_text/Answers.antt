use Rattle.std.proofs.Common.{ℕ, List, sym, subst, rules}
use Rattle.std.proofs.lemmas.Result.{MatchResult-weaker, err_from_is_err_and}
use Rattle.tasks.specs.Masked.{masked}
use Rattle.planner.specs.Planned.{Judged}
use Rattle.planner.proofs.Planning.{not_told, tells_the_job}
use Rattle.planner.proofs.text.plan_text.Goals as goal

pub returns-in_err-n-in-Ok-clause-value : goal.returns-in_err-n-in-Ok-clause-value
returns-in_err-n-in-Ok-clause-value c =
    let q = err_from_is_err_and c.from_residual-in_err-n-in-Ok.result c.from_residual-in_err-n-in-Ok.ensures.1 in
    let outcome = c.in_ok-outcome-in-Ok.outcome in
    let job = c.in-Ok.job in
    let right = subst (λ (plan : List ℕ). Judged (masked job.task) job.bound outcome.verdict plan) (sym c.as_slice.ensures.value) c.in_ok-outcome-in-Ok.ensures.value in
    rw (q.1, q.2) (not_told c.args.sheet.now job c.in-Ok.ensures.value outcome.verdict c.as_slice.result.now c.args.buffer.now c.report.new.buffer right
    c.report.result c.report.ensures.value c.report.ensures.same c.in_err-n-in-Ok.field-0.0 (MatchResult-weaker c.report.result c.in_err-n-in-Ok.ensures.cases (λ n h. h) (λ e h. search rules)))

pub returns-in_ok-n-in-Ok-clause-value : goal.returns-in_ok-n-in-Ok-clause-value
returns-in_ok-n-in-Ok-clause-value c =
    let outcome = c.in_ok-outcome-in-Ok.outcome in
    let job = c.in-Ok.job in
    let right = subst (λ (plan : List ℕ). Judged (masked job.task) job.bound outcome.verdict plan) (sym c.as_slice.ensures.value) c.in_ok-outcome-in-Ok.ensures.value in
    tells_the_job c.args.sheet.now job c.in-Ok.ensures.value outcome.verdict c.as_slice.result.now c.args.buffer.now c.report.new.buffer right c.report.result c.report.ensures.value
    c.report.ensures.law c.in_ok-n-in-Ok.n (MatchResult-weaker c.report.result c.in_ok-n-in-Ok.ensures.cases (λ k h. h) (λ e h. h))
