-- Actions that do not touch what the other needs.
use Rattle.std.specs.Prelude.{ℕ, ◌<◌, ◌≤◌, unsigned_abs}
use Rattle.tasks.specs.Meaning.{Meaning}

-- Action a makes no fact, with either sign, that action b needs.
abbrev pub LeavesNeeds : Meaning → ℕ → ℕ → Type 0
LeavesNeeds m a b = (f : ℕ) → 1 ≤ unsigned_abs (m.makes a f) → 1 ≤ unsigned_abs (m.needs b f) → ⊥

-- Two actions of the task are independent: neither makes, with either sign, a fact that the other needs.
pub record Independent (m : Meaning) (a b : ℕ) : Type 0 where
  pub one : a < m.actions
  pub other : b < m.actions
  pub forth : LeavesNeeds m a b
  pub back : LeavesNeeds m b a
