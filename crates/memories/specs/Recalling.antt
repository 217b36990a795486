-- What a set recalls: a yes has a pair behind it, and a pair that is there is recalled.
use Rattle.std.specs.Prelude.{◌≡◌, ℕ, zero, suc, ◌<◌, ◌≤◌, Bool, true, false, ◌&&◌, ◌⊎◌, ◌≢◌, nat_le}
use Rattle.std.proofs.Math.Path.{refl}
use Rattle.std.proofs.Common.{subst, arith}
use Rattle.std.proofs.Math.Logic.{inl, inr}
use Rattle.std.proofs.lemmas.Bool.{both_ways, cases_eq, and_parts, and_from, or_cases, or_left, or_right, le-leb, leb-true}
use Rattle.memories.specs.Pairs.{Pairs, recalls, recalls_below}

module _ (P : Pairs) (s n : ℕ) where
  -- the pair behind a yes
  pub record Recalled (top : ℕ) : Type 0 where
    pub left : ℕ
    pub enough : n ≤ left
    pub byte : left < top
    pub there : P s left ≡ true

  recalled_below : (top : ℕ) → recalls_below top P s n ≡ true → Recalled top
  unfolding recalls_below
  recalled_below zero e = absurd (both_ways false refl e)
  recalled_below (suc m) e = go (recalled_below m) (or_cases (nat_le n m && P s m) (recalls_below m P s n) e)
    where
      go : (recalls_below m P s n ≡ true → Recalled m) → ((nat_le n m && P s m) ≡ true) ⊎ (recalls_below m P s n ≡ true) → Recalled (suc m)
      go lower (inl h) = let w = and_parts (nat_le n m) (P s m) h in record { left = m; enough = leb-true n m w.0; byte = omega arith; there = w.1 }
      go lower (inr h) = let w = lower h in record { left = w.left; enough = w.enough; byte = omega (arith, w.byte); there = w.there }

  recalls_at : (top m : ℕ) → n ≤ m → m < top → P s m ≡ true → recalls_below top P s n ≡ true
  unfolding recalls_below
  recalls_at zero m le lt e = absurd (omega arith)
  recalls_at (suc t) m le lt e = elim (cases_eq m t) [
    | inl q ↦ or_left (nat_le n t && P s t) (recalls_below t P s n) (and_from (nat_le n t) (P s t) (le-leb n t (omega arith)) (subst (λ (k : ℕ). P s k ≡ true) q e))
    | inr ne ↦ or_right (nat_le n t && P s t) (recalls_below t P s n) (recalls_at t m le (omega arith) e)
  ]

  pub recalled : recalls P s n ≡ true → Recalled 256
  recalled e = recalled_below 256 e

  pub recalls_yes : (m : ℕ) → n ≤ m → m < 256 → P s m ≡ true → recalls P s n ≡ true
  recalls_yes m le lt e = recalls_at 256 m le lt e

  pub recalls_no : ((m : ℕ) → n ≤ m → P s m ≢ true) → recalls P s n ≡ false
  recalls_no never = go (recalls P s n) recalled
    where
      go : (b : Bool) → (b ≡ true → Recalled 256) → b ≡ false
      go true h = let w = h refl in absurd (never w.left w.enough w.there)
      go false h = refl

  pub recalls_nothing : ((m : ℕ) → P s m ≡ false) → recalls P s n ≡ false
  recalls_nothing none = recalls_no (λ m le e. both_ways (P s m) (none m) e)

-- only the pairs of the state matter
pub recalls_alike : (P Q : Pairs) (s n : ℕ) → ((m : ℕ) → P s m ≡ Q s m) → recalls P s n ≡ recalls Q s n
unfolding recalls_below
recalls_alike P Q s n same = go 256
  where
    go : (top : ℕ) → recalls_below top P s n ≡ recalls_below top Q s n
    go zero = refl
    go (suc m) = rw (same m, go m)
