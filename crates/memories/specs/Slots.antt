-- Rows by slot: each state has one row in which it may stand.
use Rattle.std.specs.Prelude.{◌≡◌, ℕ, zero, suc, ◌*◌, ◌/◌, ◌%◌, ◌^◌, false, List, length, replicate, Some, None, Option, bit_xor, slice_index_or, slice_set}
use Rattle.memories.specs.Pairs.{Pairs}
use Rattle.memories.specs.declared.row.Row.{Row}
use Rattle.memories.specs.Rows.{row, holds}

-- Byte i of a number, lowest first.
abbrev pub byte_of : ℕ → ℕ → ℕ
byte_of n i = n / 2 ^ (8 * i) % 256

-- The exclusive-or of the k lowest bytes of a number.
unfoldable pub xor_bytes : ℕ → ℕ → ℕ
xor_bytes n zero = 0
xor_bytes n (suc k) = bit_xor (xor_bytes n k) (byte_of n k)

-- The slot of a state: the exclusive-or of its eight bytes.
abbrev pub slot_of : ℕ → ℕ
slot_of s = xor_bytes s 8

-- The row holds the pair; a vacant row holds none.
abbrev pub taken : Option Row → Pairs
taken None s n = false
taken (Some r) s n = holds r s n

-- The pairs that the rows hold: each is in the slot of its state.
unfoldable pub slotted : List (Option Row) → Pairs
slotted rows s n = taken (slice_index_or rows (slot_of s) None) s n

-- The rows after a pair was kept: it replaces what stood in the slot of its state.
abbrev pub replace_row : List (Option Row) → ℕ → ℕ → List (Option Row)
replace_row rows s n = slice_set rows (slot_of s) (Some (row s n))

-- A keep made the rows of a slot memory into these, and there are still 256.
pub record IsReplaced (old : List (Option Row)) (s n : ℕ) (new : List (Option Row)) : Type 0 where
  pub value : new ≡ replace_row old s n
  pub all : length new ≡ 256

-- The rows where every slot is vacant.
abbrev pub vacant_rows : List (Option Row)
vacant_rows = replicate 256 None
