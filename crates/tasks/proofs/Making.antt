-- Tables that are made index by index: what each call answers holds of the element at its index, where no call changes
-- the function.
use Rattle.std.proofs.Common.{◌≡◌, ℕ, zero, suc, ◌+◌, ◌<◌, ◌≤◌, List, get_or, refl, sym, subst, inl, inr, arith}
use denote.Param.Members.{Mut, Called}
use Rattle.std.proofs.lemmas.Bool.{cases_eq}
use Rattle.std.specs.Array.{IsFromFnResult, IsFromFnResultFrom}

module _ {F B : Type 0} (g : Mut F (ℕ × Unit {0}) B) (f : F) (P : ℕ → B → Type 0) (each : (i : ℕ) (y : B) (q : F) → Called g f (i, tt) y q → (q ≡ f) × P i y) where
  from_place : (ys : List B) (i n : ℕ) (p : F) → p ≡ f → IsFromFnResultFrom g p ys i n → (k : ℕ) (d : B) → i ≤ k → k < i + n → P k (get_or ys k d)
  from_place ys i zero p same made k d le lt = absurd (omega arith)
  from_place ys i (suc n) p same (q, y, at, called, rest) k d le lt =
      let e = each i y q (subst (λ (s : F). Called g s (i, tt) y q) same called) in
      elim (cases_eq k i) [
        | inl here ↦ subst (λ (j : ℕ). P j (get_or ys j d)) (sym here) (subst (λ (z : B). P i z) (sym (at.1 d)) e.1)
        | inr past ↦ from_place ys (i + 1) n q e.0 rest k d (omega arith) (omega arith)
      ]

  pub made_at : (ys : List B) (n : ℕ) → IsFromFnResult g f ys n → (k : ℕ) (d : B) → k < n → P k (get_or ys k d)
  made_at ys n made k d lt = from_place ys 0 n f refl made.each k d (omega arith) (omega arith)
