-- What is recalled of one row, and of the row in the slot of a state.
use Rattle.std.proofs.Common.{◌≡◌, ℕ, ◌<◌, Bool, false, leb, ◌&&◌, ◌==◌, List, Some, None, Option, MatchOption, slice_index_or, refl, ◌∙◌, sym, inl, inr, arith}
use Rattle.std.proofs.lemmas.Bool.{cases_lt, cases_eq, and_left, and_parts, and_from, eqb-true, eq-eqb, ne_eqb, le-leb, lt-leb}
use Rattle.memories.specs.Pairs.{recalls}
use Rattle.memories.specs.declared.row.Row.{Row}
use Rattle.memories.specs.Slots.{slot_of, taken, slotted}
use Rattle.memories.specs.Recalling.{recalls_yes, recalls_no, recalls_alike, recalls_nothing}

pub recalls_taken : (r : Row) (s n : ℕ) → r.left < 256 → r.state ≡ s → recalls (taken (Some r)) s n ≡ leb n r.left
recalls_taken r s n byte e = elim (cases_lt r.left n) [
  | inl lt ↦ recalls_no (taken (Some r)) s n (λ m le h. let q = eqb-true r.left m (and_parts (r.state == s) (r.left == m) h).1 in omega arith) ∙ sym (lt-leb n r.left lt)
  | inr le ↦ recalls_yes (taken (Some r)) s n r.left le byte (and_from (r.state == s) (r.left == r.left) (eq-eqb r.state s e) (eq-eqb r.left r.left refl)) ∙ sym (le-leb n r.left le)
]

recalls_row : (r : Row) (s n : ℕ) → r.left < 256 → recalls (taken (Some r)) s n ≡ ((r.state == s) && leb n r.left)
recalls_row r s n byte = elim (cases_eq r.state s) [
  | inl here ↦ recalls_taken r s n byte here ∙ rw (eq-eqb r.state s here)
  | inr other ↦ let no = ne_eqb r.state s other in recalls_nothing (taken (Some r)) s n (λ m. and_left (r.state == s) (r.left == m) no) ∙ rw no
]

-- only the row in the slot matters
recalls-slotted : (rows : List (Option Row)) (s n : ℕ) → recalls (slotted rows) s n ≡ recalls (taken (slice_index_or rows (slot_of s) None)) s n
unfolding slotted
recalls-slotted rows s n = recalls_alike (slotted rows) (taken (slice_index_or rows (slot_of s) None)) s n (λ m. refl)

-- an answer that the row in the slot decides
pub recalls-slot : (rows : List (Option Row)) (s n : ℕ) (answer : Bool) (Q : Row → Type 0) → ((r : Row) → Q r → (answer ≡ ((r.state == s) && leb n r.left)) × (r.left < 256))
    → MatchOption (slice_index_or rows (slot_of s) None) (answer ≡ false) Q → answer ≡ recalls (slotted rows) s n
recalls-slot rows s n answer Q from m = go (slice_index_or rows (slot_of s) None) m ∙ sym (recalls-slotted rows s n)
  where
    go : (o : Option Row) → MatchOption o (answer ≡ false) Q → answer ≡ recalls (taken o) s n
    go None none = none ∙ sym (recalls_nothing (taken None) s n (λ m. refl))
    go (Some r) some = let q = from r some in q.0 ∙ sym (recalls_row r s n q.1)
