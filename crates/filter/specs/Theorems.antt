-- What holds of filtering and of plans, for every task.
use Rattle.std.specs.Prelude.{◌≡◌, ℕ, ◌≤◌, Bool, true, List, length}
use Rattle.tasks.specs.Meaning.{Meaning, Lawful}
use Rattle.tasks.specs.States.{Solves, start_state, state_at}
use Rattle.filter.specs.Structures.{Structure}
use Rattle.filter.specs.Filtering.{Consistent, Filtered}
use Rattle.filter.specs.Plans.{trace, Inside, Fixes, Anchored, state_of}

-- What filtering makes of a structure is one answer and one structure.
abbrev pub FilteringHasOneResult : Type 0
FilteringHasOneResult = (m : Meaning) (p : Structure) (stands other : Bool) (q r : Structure)
    → Filtered m p stands q → Filtered m p other r → (stands ≡ other) × (q ≡ r)

abbrev pub TheTraceOfAPlanIsConsistent : Type 0
TheTraceOfAPlanIsConsistent = (m : Meaning) → Lawful m → (acts : List ℕ) → Solves m acts → Consistent m (trace m acts)

abbrev pub FilteringLosesNoPlan : Type 0
FilteringLosesNoPlan = (m : Meaning) → Lawful m → (p q : Structure) (stands : Bool) → Filtered m p stands q
    → (acts : List ℕ) → Solves m acts → Inside m p acts → (stands ≡ true) × Inside m q acts

-- Where the first steps of a consistent structure within start and goals have one action each, the levels up to there are
-- the states that these actions reach.
abbrev pub ALevelAfterSingleStepsIsAState : Type 0
ALevelAfterSingleStepsIsAState = (m : Meaning) → Lawful m → (p : Structure) → Consistent m p → Anchored m p
    → (acts : List ℕ) → length acts ≤ p.round → Fixes p acts → (j : ℕ) → j ≤ length acts → state_of m p j ≡ state_at m (start_state m) acts j

-- Where all steps have one action each, these actions are a plan.
abbrev pub SingleStepsAreAPlan : Type 0
SingleStepsAreAPlan = (m : Meaning) → Lawful m → (p : Structure) → Consistent m p → Anchored m p
    → (acts : List ℕ) → length acts ≡ p.round → Fixes p acts → Solves m acts
