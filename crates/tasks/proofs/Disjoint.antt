-- One action leaves another's needs alone exactly where the facts of its effects and of those needs are disjoint.
use Rattle.std.proofs.Common.{◌≡◌, ℕ, zero, suc, ◌≤◌, Bool, true, false, ℤ, pos, negsuc, nat_abs, sym, ◌∙◌, inl, inr, arith}
use Rattle.std.proofs.lemmas.Bool.{false≢true}
use Rattle.sets.specs.Sets.{has}
use Rattle.sets.specs.Signs.{says}
use Rattle.sets.specs.declared.literals.Literals.{Literals}
use Rattle.tasks.specs.Meaning.{Meaning}
use Rattle.tasks.specs.Independence.{LeavesNeeds}
use Rattle.tasks.specs.Rows.{Names}
use Rattle.tasks.proofs.Listing.{says_some}

some_said : (z : ℤ) (v : Bool) → says z v ≡ true → 1 ≤ nat_abs z
some_said (pos zero) v e = absurd (false≢true e)
some_said (pos (suc n)) v e = omega arith
some_said (negsuc n) v e = omega arith

-- a number that is not 0 puts a literal into the set
there : (numbers : ℕ → ℤ) (set : Literals) → Names numbers set → (f : ℕ) → 1 ≤ nat_abs (numbers f) → (v : Bool) × (has set f v ≡ true)
there numbers set names f h = elim (says_some (numbers f) h) [ inl e ↦ (true, names f true ∙ e) | inr e ↦ (false, names f false ∙ e) ]

module _ (m : Meaning) (a b : ℕ) (x y : Literals) (made : Names (m.makes a) x) (needed : Names (m.needs b) y) where
  pub leaves : ((f : ℕ) (v w : Bool) → has x f v ≡ true → has y f w ≡ true → ⊥) → LeavesNeeds m a b
  leaves apart f p q =
      let s = there (m.makes a) x made f p in
      let t = there (m.needs b) y needed f q in
      apart f s.0 t.0 s.1 t.1

  pub leaving : LeavesNeeds m a b → (f : ℕ) (v w : Bool) → has x f v ≡ true → has y f w ≡ true → ⊥
  leaving h f v w p q = h f (some_said (m.makes a f) v (sym (made f v) ∙ p)) (some_said (m.needs b f) w (sym (needed f w) ∙ q))
