-- Finding a state among rows without a look at each: the rows of one slot form a chain, from the newest to the oldest.
use Rattle.std.specs.Prelude.{◌≡◌, ℕ, zero, suc, ◌<◌, cond, List, length, Some, None, Option, ◌==◌, slice_index_or}
use Rattle.memories.specs.declared.row.Row.{Row}
use Rattle.memories.specs.Rows.{StatesDiffer, row}
use Rattle.memories.specs.Slots.{slot_of}

-- The state of row i.
abbrev pub state_at : List Row → ℕ → ℕ
state_at rows i = (slice_index_or rows i (row 0 0)).state

-- The number of the newest of the first n rows whose state has the slot, if there is one.
unfoldable pub newest_of : List Row → ℕ → ℕ → Option ℕ
newest_of rows slot zero = None
newest_of rows slot (suc n) = let older = newest_of rows slot n in cond (slot_of (state_at rows n) == slot) (Some n) older

-- The heads and links lead through each chain: from a slot to its newest row, and from a row to the next older one of its slot.
pub record IsChained (rows : List Row) (heads links : List (Option ℕ)) : Type 0 where
  pub wide : length heads ≡ 256
  pub tall : length links ≡ 256
  pub newest : (slot : ℕ) → slot < 256 → slice_index_or heads slot None ≡ newest_of rows slot (length rows)
  pub older : (i : ℕ) → i < length rows → slice_index_or links i None ≡ newest_of rows (slot_of (state_at rows i)) i
  pub apart : StatesDiffer rows
