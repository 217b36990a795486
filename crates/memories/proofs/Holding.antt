-- Which row of a list holds a pair, and what a walk over the rows recalls, of any list: a state may stand in many rows.
use Rattle.std.proofs.Common.{◌≡◌, ℕ, zero, suc, ◌<◌, ◌≤◌, true, false, ◌||◌, ◌==◌, List, [], ◌∷◌, length, get_or, refl, ◌⊎◌, inl, inr, arith}
use Rattle.std.proofs.lemmas.Bool.{both_ways, and_parts, or_cases, or_right, eqb-true, eq-eqb}
use Rattle.memories.specs.Pairs.{recalls}
use Rattle.memories.specs.declared.row.Row.{Row}
use Rattle.memories.specs.Rows.{holds, among}
use Rattle.memories.specs.Recalling.{recalls_yes, recalls_no}
use Rattle.memories.proofs.Finding.{no_row}

-- the row i holds the pair
pub record Stands (rs : List Row) (i s n : ℕ) : Type 0 where
  pub within : i < length rs
  pub state : (get_or rs i no_row).state ≡ s
  pub left : (get_or rs i no_row).left ≡ n

pub in_row : (rs : List Row) (s n : ℕ) → among rs s n ≡ true → (i : ℕ) × Stands rs i s n
unfolding among
in_row [] s n e = absurd (both_ways false refl e)
in_row (r ∷ rs) s n e = go (in_row rs s n) (or_cases (holds r s n) (among rs s n) e)
  where
    go : (among rs s n ≡ true → (i : ℕ) × Stands rs i s n) → (holds r s n ≡ true) ⊎ (among rs s n ≡ true) → (i : ℕ) × Stands (r ∷ rs) i s n
    go later (inl h) = let b = and_parts (r.state == s) (r.left == n) h in (0, record { within = omega arith; state = eqb-true r.state s b.0; left = eqb-true r.left n b.1 })
    go later (inr h) = let t = later h in (suc t.0, record { within = omega (arith, t.1.within); state = t.1.state; left = t.1.left })

pub of_row : (rs : List Row) (i s n : ℕ) → Stands rs i s n → among rs s n ≡ true
unfolding among
of_row [] i s n t = absurd (omega (arith, t.within))
of_row (r ∷ rs) zero s n t = rw (eq-eqb r.state s t.state, eq-eqb r.left n t.left)
of_row (r ∷ rs) (suc i) s n t = or_right (holds r s n) (among rs s n) (of_row rs i s n (record { within = omega (arith, t.within); state = t.state; left = t.left }))

-- recall by a walk over the rows
pub recalls_row : (rs : List Row) (i s n : ℕ) → i < length rs → (get_or rs i no_row).left < 256 → (get_or rs i no_row).state ≡ s → n ≤ (get_or rs i no_row).left → recalls (among rs) s n ≡ true
recalls_row rs i s n lt byte e le = recalls_yes (among rs) s n (get_or rs i no_row).left le byte (of_row rs i s (get_or rs i no_row).left (record { within = lt; state = e; left = refl }))

pub recalls_no_row : (rs : List Row) (s n : ℕ) → ((i : ℕ) → i < length rs → (get_or rs i no_row).state ≡ s → n ≤ (get_or rs i no_row).left → ⊥) → recalls (among rs) s n ≡ false
recalls_no_row rs s n never = recalls_no (among rs) s n (λ m le e. let t = in_row rs s m e in never t.0 t.1.within t.1.state (omega (arith, t.1.left)))
