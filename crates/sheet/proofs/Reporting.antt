-- The names of a plan in a text: one more name, one more line.
use Rattle.std.proofs.Common.{◌≡◌, ℕ, ◌<◌, ◌≤◌, true, false, ◌&&◌, ltb, leb, List, [], ◌∷◌, ◌++◌, length, get_or, take, Ok, Err, codes, decimal, Result, sym, refl, ap, ◌∙◌, arith}
use Rattle.std.specs.List.{flat_map}
use Rattle.std.proofs.lemmas.Bool.{and_parts, le-ltb, le-leb, ltb-true, cond-false}
use Rattle.search.specs.declared.verdict.Verdict.{Verdict}
use Rattle.search.specs.declared.verdict.Verdict.TheVariants as verdict
use Rattle.sheet.specs.declared.counts.Counts.{Counts}
use Rattle.sheet.specs.declared.fault.Fault.{Fault}
use Rattle.sheet.specs.declared.fault.Fault.TheVariants as fault
use Rattle.sheet.specs.declared.refusal.Refusal.{Refusal}
use Rattle.sheet.specs.Actions.{action_name, checked, unnamed}
use Rattle.sheet.specs.Bodies.{over}
use Rattle.sheet.specs.Dues.{then}
use Rattle.sheet.specs.Report.{Written, ReportsTheSheet, below, blank, ended, fits_plan, planned, report_text, text, text_for}
use Rattle.sheet.specs.Sheet.{Read}
use Rattle.sheet.proofs.Answered.{agree_ok, agree_at_ok, then_ok, kept, passed, ok_same}
use Rattle.sheet.proofs.ActionNames.{checked_ok, sheet_names, unnamed_ok}

pub fits_by_numbers : (actions n : ℕ) (plan : List ℕ) → n ≤ 30 → n ≤ length plan → fits_plan actions n plan ≡ below actions (take n plan)
fits_by_numbers actions n plan few long = rw (le-leb n 30 few, le-leb n (length plan) long)

-- a text that stands at the front of a buffer is what the call has written
pub written_at : (told : Result (List ℕ) Fault) (t bytes before after : List ℕ) (r : ℕ) → told ≡ Ok t → bytes ≡ t → r ≡ length bytes → after ≡ over bytes before → Written told before after (Ok r)
written_at told t bytes before after r e same p q = agree_at_ok _ told t r e (p ∙ ap length same, q ∙ ap (λ x. over x before) same)

-- the same names give the same text
joined_same : (n : ℕ) (f g : ℕ → List ℕ) → ((a : ℕ) → a < n → f a ≡ g a) → (plan : List ℕ) → below n plan ≡ true → flat_map (λ a. ended (f a)) plan ≡ flat_map (λ a. ended (g a)) plan
joined_same n f g same [] e = refl
joined_same n f g same (a ∷ plan) e =
    let p = and_parts (ltb a n) (below n plan) e in
    (λ i. ended (same a (ltb-true a n p.0) i) ++ joined_same n f g same plan p.1 i)

text_same : (c : Counts) (f g : ℕ → List ℕ) → ((a : ℕ) → a < c.actions → f a ≡ g a) → (v : Verdict) (plan : List ℕ) → planned c v plan ≡ true → text f v plan ≡ text g v plan
text_same c f g same verdict.Blank plan e = refl
text_same c f g same verdict.Unfinished plan e = refl
text_same c f g same (verdict.Found n) plan e =
    let p = and_parts (leb n 30) (leb n (length plan) && below c.actions (take n plan)) e in
    let q = and_parts (leb n (length plan)) (below c.actions (take n plan)) p.1 in
    ap (λ t. ended (codes "found " ++ decimal n) ++ t) (joined_same c.actions f g same (take n plan) q.1)
text_same c f g same (verdict.None k) plan e = refl

-- a text that is written names the actions as the sheet does
pub reports : (bs : List ℕ) (v : Verdict) (plan : List ℕ) (room : ℕ) (before after : List ℕ) (r : Result ℕ Fault) → Written (report_text bs v plan room) before after r → ReportsTheSheet bs v plan before after r
reports bs v plan room before after (Ok n) h =
    let p = agree_ok _ (report_text bs v plan room) n h in
    let t = p.0 in
    let q = then_ok (unnamed (checked bs)) (λ x. text_for bs x.counts v plan) t (passed (ltb room 800) _ _ t (passed (blank v) _ _ t p.1)) in
    let x = q.0 in
    let k = kept (planned x.counts v plan) (Ok (text (action_name bs x.counts.facts) v plan)) _ t q.2 in
    let s = sheet_names bs x (checked_ok bs x (unnamed_ok (checked bs) x q.1)) in
    let same = text_same x.counts (action_name bs x.counts.facts) (λ a. get_or s.0.acts a []) (λ a l. s.4 a (omega (arith, l, ap (λ y. y.counts.actions) s.3))) v plan k.0 in
    (s.0, s.1, s.2, p.2.1 ∙ ap (λ u. over u before) (sym (ok_same _ t k.1) ∙ same))
reports bs v plan room before after (Err e) h = tt

-- the answers of the call
module _ (bs : List ℕ) (v : Verdict) (plan : List ℕ) (room : ℕ) (told : blank v ≡ false) (enough : 800 ≤ room) where
  opened : report_text bs v plan room ≡ then (unnamed (checked bs)) (λ x. text_for bs x.counts v plan)
  opened = cond-false (blank v) _ _ told ∙ cond-false (ltb room 800) _ _ (le-ltb room 800 enough)

  pub of_refused : (f : Refusal) → checked bs ≡ Err f → report_text bs v plan room ≡ Err fault.Mismatch
  of_refused f e = opened ∙ ap (λ r. then (unnamed r) (λ x. text_for bs x.counts v plan)) e

  pub of_accepted : (x : Read) (c : Counts) → checked bs ≡ Ok x → c ≡ x.counts → report_text bs v plan room ≡ text_for bs c v plan
  of_accepted x c e k = opened ∙ ap (λ r. then (unnamed r) (λ x. text_for bs x.counts v plan)) e ∙ ap (λ d. text_for bs d v plan) (sym k)

pub not_blank : (v : Verdict) → (v ≡ verdict.Blank → ⊥) → blank v ≡ false
not_blank verdict.Blank h = absurd (h refl)
not_blank verdict.Unfinished h = refl
not_blank (verdict.Found n) h = refl
not_blank (verdict.None k) h = refl
