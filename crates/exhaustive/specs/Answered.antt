-- What is answered for a task, a budget and a plan whose room is the bound.
use Rattle.std.specs.Prelude.{◌≡◌, ℕ, ◌<◌, ◌≤◌, List, length, take, drop, Some, None, Ok, Err, Option, Result}
use Rattle.tasks.specs.Meaning.{Meaning}
use Rattle.tasks.specs.States.{Shortest, Solvable}
use Rattle.exhaustive.specs.declared.budget.OutOfBudget.{OutOfBudget}
use Rattle.exhaustive.specs.Sequences.{sequences_up_to}

-- The budget was spent: there are more sequences of up to the bound's number of actions, and more of each number of actions
-- up to which a plan exists.
pub record SpentOn (m : Meaning) (bound budget : ℕ) : Type 0 where
  pub bounded : budget < sequences_up_to m bound
  pub unsolved : (n : ℕ) → Solvable m n → budget < sequences_up_to m n

-- A plan is a shortest solution, and stands at the front. Where there is none or the budget was spent, nothing was written.
abbrev pub Answered : Meaning → ℕ → List ℕ → List ℕ → Result (Option ℕ) OutOfBudget → Type 0
Answered m budget before plan (Ok (Some n)) = (n ≤ length before) × Shortest m (take n plan) × (drop n plan ≡ drop n before)
Answered m budget before plan (Ok None) =
    (Solvable m (length before) → ⊥) × (sequences_up_to m (length before) ≤ budget) × (plan ≡ before)
Answered m budget before plan (Err spent) = SpentOn m (length before) budget × (plan ≡ before)
