-- The ranges of what a sheet says: enough for a task to be made of it.
use Rattle.std.specs.Prelude.{◌≡◌, ℕ, ◌*◌, ◌<◌, ◌≤◌, pos, slice_index_or, unsigned_abs}
use Rattle.sheet.specs.declared.counts.Counts.{Counts}
use Rattle.sheet.specs.Counting.{Limits}
use Rattle.sheet.specs.Sheet.{Tables}

-- Counts within their limits; cells that are 1, 0 or -1; and 1 or -1 for each fact in the start.
pub record Ranged (c : Counts) (t : Tables) : Type 0 where
  pub limits : Limits c
  pub needs_ranged : (i : ℕ) → i < c.actions * c.facts → unsigned_abs (slice_index_or t.needs i (pos 0)) ≤ 1
  pub makes_ranged : (i : ℕ) → i < c.actions * c.facts → unsigned_abs (slice_index_or t.makes i (pos 0)) ≤ 1
  pub start_ranged : (f : ℕ) → f < c.facts → unsigned_abs (slice_index_or t.start f (pos 0)) ≡ 1
  pub goal_ranged : (f : ℕ) → f < c.facts → unsigned_abs (slice_index_or t.goal f (pos 0)) ≤ 1
