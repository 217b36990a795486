-- Rows of pairs: after a keep each pair was there before or is the new one. By induction over the rows, of which the first either has
-- the state or is passed over.
use Rattle.std.specs.Prelude.{◌≡◌, ℕ, ◌-◌, max, Bool, true, false, cond, ◌||◌, ◌⊎◌, List, [], ◌∷◌, ◌==◌, nat_lt, refl}
use Rattle.std.proofs.Common.{sym, ◌∙◌, inl, inr, arith}
use Rattle.std.proofs.lemmas.Bool.{cases_lt, and_parts, or_cases, or_left, or_right, eqb-true, eq-eqb}
use Rattle.memories.specs.Pairs.{Kept}
use Rattle.memories.specs.declared.row.Row.{Row}
use Rattle.memories.specs.Rows.{row, holds, among, keep_row}

-- a keep invents nothing
pub kept : (room : ℕ) (rs : List Row) (s n : ℕ) → Kept (among rs) s n (among (keep_row room rs s n))
unfolding among keep_row
kept room [] s n s' n' = go (nat_lt 0 room)
  where
    go : (b : Bool) → among (cond b (row s n ∷ []) []) s' n' ≡ true → (false ≡ true) ⊎ ((s' ≡ s) × (n' ≡ n))
    go true e = elim (or_cases (holds (row s n) s' n') false e) [
      | inl h ↦ let b = and_parts (s == s') (n == n') h in inr (sym (eqb-true s s' b.0), sym (eqb-true n n' b.1))
      | inr h ↦ inl h
    ]
    go false e = inl e
kept room (r ∷ rs) s n s' n' = go (r.state == s) refl (kept (room - 1) rs s n s' n')
  where
    go : (b : Bool) → (r.state == s) ≡ b → (among (keep_row (room - 1) rs s n) s' n' ≡ true → (among rs s' n' ≡ true) ⊎ ((s' ≡ s) × (n' ≡ n)))
        → among (cond b (row s (max r.left n) ∷ rs) (r ∷ keep_row (room - 1) rs s n)) s' n' ≡ true → ((holds r s' n' || among rs s' n') ≡ true) ⊎ ((s' ≡ s) × (n' ≡ n))
    go true q later e = elim (or_cases (holds (row s (max r.left n)) s' n') (among rs s' n') e) [
      | inl h ↦
          let b = and_parts (s == s') (max r.left n == n') h in
          let same = eqb-true s s' b.0 in
          let top = eqb-true (max r.left n) n' b.1 in
          elim (cases_lt r.left n) [
            | inl lt ↦ inr (sym same, omega arith)
            | inr le ↦ inl (or_left (holds r s' n') (among rs s' n') (rw (eq-eqb r.state s' (eqb-true r.state s q ∙ same), eq-eqb r.left n' (omega arith))))
          ]
      | inr h ↦ inl (or_right (holds r s' n') (among rs s' n') h)
    ]
    go false q later e = elim (or_cases (holds r s' n') (among (keep_row (room - 1) rs s n) s' n') e) [
      | inl h ↦ inl (or_left (holds r s' n') (among rs s' n') h)
      | inr h ↦ elim (later h) [ inl o ↦ inl (or_right (holds r s' n') (among rs s' n') o) | inr p ↦ inr p ]
    ]
