-- Rows by slot: a pair is looked for in the slot of its state alone, so a keep changes the pairs of one slot only.
use Rattle.std.specs.Prelude.{◌≡◌, ℕ, true, false, List, length, get_or, Some, None, Option, ◌==◌, slice_index_or}
use Rattle.std.proofs.Common.{sym, ◌∙◌, ap, subst, inl, inr, arith}
use Rattle.std.proofs.lemmas.List.{get_or-set_same, get_or-set_other, get_or-replicate, get_or_past, set_past, length-replicate}
use Rattle.std.proofs.lemmas.Bool.{cases_eq, cases_lt, and_parts, eqb-true}
use Rattle.memories.specs.Pairs.{Kept}
use Rattle.memories.specs.declared.row.Row.{Row}
use Rattle.memories.specs.Rows.{row, holds}
use Rattle.memories.specs.Slots.{slot_of, taken, slotted, replace_row, vacant_rows}

-- the new pair is in its slot, and the others are as they were
pub replaced : (rows : List (Option Row)) (s n : ℕ) → Kept (slotted rows) s n (slotted (replace_row rows s n))
unfolding slotted
replaced rows s n s' n' e = elim (cases_eq (slot_of s') (slot_of s)) [
  | inl same ↦ elim (cases_lt (slot_of s) (length rows)) [
    | inl lt ↦
        let there : get_or (replace_row rows s n) (slot_of s') None ≡ Some (row s n) = ap (λ (i : ℕ). get_or (replace_row rows s n) i None) same ∙ get_or-set_same rows (slot_of s) (Some (row s n)) None lt in
        let pair : holds (row s n) s' n' ≡ true = subst (λ (o : Option Row). taken o s' n' ≡ true) there e in
        let parts = and_parts (s == s') (n == n') pair in
        inr (sym (eqb-true s s' parts.0), sym (eqb-true n n' parts.1))
    | inr past ↦ inl (subst (λ (rs : List (Option Row)). taken (slice_index_or rs (slot_of s') None) s' n' ≡ true) (set_past rows (slot_of s) (Some (row s n)) past) e)
  ]
  | inr other ↦ inl (subst (λ (o : Option Row). taken o s' n' ≡ true) (get_or-set_other rows (slot_of s) (slot_of s') (Some (row s n)) None other) e)
]

pub vacant : (s n : ℕ) → slotted vacant_rows s n ≡ false
unfolding slotted
vacant s n = ap (λ (o : Option Row). taken o s n) (elim (cases_lt (slot_of s) 256) [
  | inl lt ↦ get_or-replicate 256 (slot_of s) None None lt
  | inr past ↦ get_or_past vacant_rows (slot_of s) None (omega (arith, length-replicate {A = Option Row} 256 None))
])
