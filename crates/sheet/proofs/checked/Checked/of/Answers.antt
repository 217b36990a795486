use Rattle.std.proofs.Common.{sym, refl, arith}
use Rattle.std.proofs.lemmas.Result.{err_from_is_err_and}
use Rattle.sheet.specs.Actions.{checked}
use Rattle.sheet.proofs.Answered.{agree_ok, agree_err, agree_at_ok, agree_at_err}
use Rattle.sheet.proofs.ActionNames.{checks, counts_accepted}
use Rattle.sheet.proofs.checked.Checked.of.Goals as goal

pub invariant_of-result : goal.invariant_of-result
invariant_of-result c =
    let bs = c.args.sheet.now in
    record { accepted = counts_accepted bs c.in_ok-counts.counts (checks _ (λ x k h. h.0) bs _ (omega (arith, c.in_ok-sized.ensures.within)) c.in_ok-counts.ensures).1 }

pub returns : goal.returns
returns c =
    let bs = c.args.sheet.now in
    let p = agree_ok _ (checked bs) _ (checks _ (λ x k h. h.0) bs _ (omega (arith, c.in_ok-sized.ensures.within)) c.in_ok-counts.ensures).0 in
    agree_at_ok _ (checked bs) p.0 _ p.1 (refl, p.2)

pub returns-in_err-counts : goal.returns-in_err-counts
returns-in_err-counts c =
    let bs = c.args.sheet.now in
    let q = err_from_is_err_and c.from_residual-in_err-counts.result c.from_residual-in_err-counts.ensures.1 in
    let e = agree_err _ (checked bs) _ (checks _ (λ x k h. h.0) bs _ (omega (arith, c.in_ok-sized.ensures.within)) c.in_err-counts.ensures).0 in
    rw q.1 (agree_at_err _ (checked bs) _ _ e (sym q.2))
