-- Reading accepts exactly what a well-formed sheet spells: an accepted sheet is a spelled one, and a spelled one is accepted,
-- so that a refusal of a line leaves none that spells it.
use Rattle.std.proofs.Common.{◌≡◌, ℕ, ◌≤◌, Bool, true, false, cond, ltb, List, length, IfOk, Ok, Err, Result, sym, ap, ◌∙◌, arith}
use Rattle.sheet.specs.declared.counts.Counts.{Counts}
use Rattle.sheet.specs.declared.fault.Fault.{Fault}
use Rattle.sheet.specs.declared.fault.Fault.TheVariants as fault
use Rattle.sheet.specs.declared.refusal.Refusal.{Refusal}
use Rattle.sheet.specs.Actions.{Accepted}
use Rattle.sheet.specs.Dues.{refuse}
use Rattle.sheet.specs.Faults.{number}
use Rattle.sheet.specs.Sheet.{Tables, Read, ReadInto, sheet, short, reading, written}
use Rattle.sheet.specs.Grammar.{meaning, AcceptsExactlyWhatIsSpelled}
use Rattle.sheet.proofs.Answered.{agree_ok, agree_err, passed}
use Rattle.sheet.proofs.SheetAccepted.{accepted}
use Rattle.sheet.proofs.SheetSpelled.{written as its_reading}

-- past a check before the lines
lined : (b : Bool) (f : Fault) (r : Result Read Refusal) (e : Refusal) → number f ≤ 2 → 3 ≤ number e.fault → cond b (refuse f 0) r ≡ Err e → r ≡ Err e
lined true f r e low high h = let same : f ≡ e.fault = cc in absurd (omega (arith, low, high, ap number same))
lined false f r e low high h = h

pub lawful : (bs : List ℕ) (before after : Tables) (r : Result Counts Refusal) → ReadInto bs before after r → AcceptsExactlyWhatIsSpelled bs before after r
lawful bs before after (Ok c) h =
    let p = agree_ok _ (reading bs before) c h in
    let x = p.0 in
    let is = passed (short before) _ (sheet bs) x (passed (ltb 32768 (length bs)) _ _ x p.1) in
    let q = accepted bs x is in
    (q.0, q.1, q.2, p.2.0 ∙ ap (λ y. y.counts) q.3, p.2.1 ∙ ap (λ y. written y.tables before) q.3)
lawful bs before after (Err e) h = λ high v w s.
    let is = lined (short before) fault.TableTooShort (sheet bs) e (omega arith) high
    (lined (ltb 32768 (length bs)) fault.TooLong _ e (omega arith) high (agree_err _ (reading bs before) e h)) in
    let both : ◌≡◌ {A = Result Read Refusal} (Err e) (Ok (meaning v)) = sym is ∙ ap sheet s ∙ its_reading v w in
    grind arith

-- what is accepted with tables is accepted without
untabled : (b c : Bool) (f g : Refusal) (r : Result Read Refusal) (x : Read) → cond b (Err f) (cond c (Err g) r) ≡ Ok x → cond b (Err f) r ≡ Ok x
untabled true c f g r x e = absurd (grind arith)
untabled false c f g r x e = passed c g r x e

pub accepted_read : (bs : List ℕ) (before after : Tables) (r : Result Counts Refusal) → ReadInto bs before after r → IfOk r (Accepted bs)
accepted_read bs before after (Ok c) h =
    let p = agree_ok _ (reading bs before) c h in
    (p.0, untabled (ltb 32768 (length bs)) (short before) _ _ (sheet bs) p.0 p.1, p.2.0)
accepted_read bs before after (Err e) h = tt
