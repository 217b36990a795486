-- What an answer says of what it was made from: a chain, a check, a line; and an answer that agrees with a definition.
use Rattle.std.proofs.Common.{◌≡◌, ℕ, Bool, true, false, cond, Ok, Err, Result, sym, refl, ap, ◌∙◌, arith}
use Rattle.std.specs.Result.{MatchResult, IsErrAnd}
use Rattle.std.proofs.lemmas.Result.{err_from_is_err_and}
use Rattle.sheet.specs.declared.fault.Fault.TheVariants as fault
use Rattle.sheet.specs.declared.refusal.Refusal.{Refusal}
use Rattle.sheet.specs.declared.fault.Fault.{Fault}
use Rattle.sheet.specs.Agree.{Agree}
use Rattle.sheet.specs.Dues.{then, at_line}

module _ {X E : Type 0} where
  pub ok_same : (x y : X) → ◌≡◌ {A = Result X E} (Ok x) (Ok y) → x ≡ y
  ok_same x y e = cc

  pub kept : (b : Bool) (r : Result X E) (e : E) (x : X) → cond b r (Err e) ≡ Ok x → (b ≡ true) × (r ≡ Ok x)
  kept true r e x h = (refl, h)
  kept false r e x h = absurd (grind arith)

  pub rejected : (b : Bool) (x : X) (e f : E) → ◌≡◌ {A = Result X E} (cond b (Ok x) (Err e)) (Err f) → b ≡ false
  rejected true x e f h = absurd (grind arith)
  rejected false x e f h = refl

  pub passed : (b : Bool) (e : E) (r : Result X E) (x : X) → cond b (Err e) r ≡ Ok x → r ≡ Ok x
  passed true e r x h = absurd (grind arith)
  passed false e r x h = h

pub then_ok : {X Y E : Type 0} (r : Result X E) (k : X → Result Y E) (y : Y) → then r k ≡ Ok y → (x : X) × (r ≡ Ok x) × (k x ≡ Ok y)
then_ok (Ok x) k y e = (x, refl, e)
then_ok (Err f) k y e = absurd (grind arith)

pub at_ok : {X : Type 0} (n : ℕ) (r : Result X Fault) (x : X) → at_line n r ≡ Ok x → r ≡ Ok x
at_ok n (Ok y) x e = let same : y ≡ x = cc in ap Ok same
at_ok n (Err f) x e = absurd (grind arith)

module _ {X Y E : Type 0} (R : X → Y → Type 0) where
  pub agree_ok : (x : Result X E) (y : Y) → Agree R x (Ok y) → (v : X) × (x ≡ Ok v) × R v y
  agree_ok (Ok v) y h = (v, refl, h)
  agree_ok (Err e) y h = absurd h

  pub agree_err : (x : Result X E) (e : E) → Agree R x (Err e) → x ≡ Err e
  agree_err (Ok v) e h = absurd h
  agree_err (Err f) e h = ap Err h

  pub agree_at_ok : (x : Result X E) (v : X) (y : Y) → x ≡ Ok v → R v y → Agree R x (Ok y)
  agree_at_ok (Ok w) v y e h = let same : v ≡ w = cc in rw same at h
  agree_at_ok (Err f) v y e h = absurd (grind arith)

  pub agree_at_err : (x : Result X E) (e f : E) → x ≡ Err e → e ≡ f → Agree R x (Err f)
  agree_at_err (Ok v) e f h g = absurd (grind arith)
  agree_at_err (Err d) e f h g = cc

-- what `map_err` makes of a fault: the refusal of its line, or that nothing matches
pub at_line_from_map : {X : Type 0} {Q : Fault → Refusal → Type 0} (n : ℕ) (r : Result X Fault) (s : Result X Refusal) → MatchResult r (λ x. s ≡ Ok x) (λ f. IsErrAnd s (Q f)) → ((f : Fault) (e : Refusal) → Q f e → e ≡ record { fault = f; line = n }) → s ≡ at_line n r
at_line_from_map n (Ok x) s h is = h
at_line_from_map n (Err f) s h is = let p = err_from_is_err_and s h in p.1 ∙ ap Err (is f p.0 p.2)

module _ {X : Type 0} where
  pub accepted_from_map : (Q : Refusal → Fault → Type 0) (r : Result X Refusal) (s : Result X Fault) → MatchResult r (λ x. s ≡ Ok x) (λ e. IsErrAnd s (Q e)) → (x : X) → s ≡ Ok x → r ≡ Ok x
  accepted_from_map Q (Ok y) s h x e = let same : ◌≡◌ {A = Result X Fault} (Ok y) (Ok x) = sym h ∙ e in ap Ok (ok_same y x same)
  accepted_from_map Q (Err f) s h x e = let p = err_from_is_err_and s h in absurd (let q : ◌≡◌ {A = Result X Fault} (Ok x) (Err p.0) = sym e ∙ p.1 in cc)

  pub refused_from_map : (Q : Refusal → Fault → Type 0) (r : Result X Refusal) (s : Result X Fault) → MatchResult r (λ x. s ≡ Ok x) (λ e. IsErrAnd s (Q e)) → ((e : Refusal) (f : Fault) → Q e f → f ≡ fault.Mismatch) → (f : Fault) → s ≡ Err f → (e : Refusal) × (r ≡ Err e) × (f ≡ fault.Mismatch)
  refused_from_map Q (Ok y) s h is f e = absurd (let q : ◌≡◌ {A = Result X Fault} (Ok y) (Err f) = sym h ∙ e in cc)
  refused_from_map Q (Err y) s h is f e =
      let p = err_from_is_err_and s h in
      let both : ◌≡◌ {A = Result X Fault} (Err f) (Err p.0) = sym e ∙ p.1 in
      let same : f ≡ p.0 = cc in
      (y, refl, same ∙ is y p.0 p.2)
