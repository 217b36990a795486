-- What trying all sequences of one length from a state comes to.
use Rattle.std.specs.Prelude.{◌≡◌, ℕ, ◌+◌, ◌<◌, Bool, true, false, List, length, Ok, Err, Result}
use Rattle.tasks.specs.Meaning.{Meaning}
use Rattle.tasks.specs.States.{Reaches}
use Rattle.exhaustive.specs.declared.budget.OutOfBudget.{OutOfBudget}
use Rattle.exhaustive.specs.Sequences.{sequences}

-- No sequence of n actions reaches the goals from the state.
abbrev pub NoneReaches : Meaning → ℕ → ℕ → Type 0
NoneReaches m s n = (acts : List ℕ) → length acts ≡ n → Reaches m s acts → ⊥

-- The budget and the plan before and after: what was found reaches the goals; where all were tried, each cost one; and the
-- budget is spent only where it is less than their number.
abbrev pub TriedAll : Meaning → ℕ → ℕ → ℕ → List ℕ → List ℕ → Result Bool OutOfBudget → Type 0
TriedAll m s budget left before plan (Ok true) = Reaches m s plan
TriedAll m s budget left before plan (Ok false) =
    NoneReaches m s (length before) × (budget ≡ left + sequences m s (length before)) × (plan ≡ before)
TriedAll m s budget left before plan (Err spent) = (budget < sequences m s (length before)) × (plan ≡ before)
