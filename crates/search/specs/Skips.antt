-- What need not be done again within one call: levels that were asked need not be asked again, and stages that are consistent need not be filtered.
use Rattle.std.specs.Prelude.{◌≡◌, ℕ, suc, ◌+◌, ◌-◌, ◌<◌, ◌≤◌, min, Bool, true, false, ◌||◌, List, [], ◌∷◌, length, Some, None, Option, ◌≢◌}
use Rattle.tasks.specs.Meaning.{Meaning, Lawful}
use Rattle.filter.specs.Structures.{Structure, trimmed}
use Rattle.filter.specs.Rules.{stage}
use Rattle.filter.specs.Filtering.{ConsistentStage, Filtered}
use Rattle.filter.specs.Plans.{state_of}
use Rattle.memories.specs.Pairs.{Pairs, Kept, recalls}
use Rattle.search.specs.Machines.{Entry, Machine, Made}
use Rattle.search.specs.Machines.Entry.{part, pair}
use Rattle.search.specs.Machines.Stage.{unfinished}
use Rattle.search.specs.Steps.{put_up, Step}
use Rattle.search.specs.Calls.{Keeps}
use Rattle.search.specs.Depths.{Shallow}

-- No fact has both values at level 0.
abbrev pub BeginsInOneState : Structure → Type 0
BeginsInOneState p = (f : ℕ) → p.possible 0 f true ≡ true → p.possible 0 f false ≢ true

-- The parent was split at step i or before, if there is one.
abbrev pub By : ℕ → Option ℕ → Type 0
By i None = Unit {0}
By i (Some j) = j ≤ i

abbrev pub AllBy : ℕ → List Entry → Type 0
AllBy i [] = Unit {0}
AllBy i (part p from ∷ rest) = By i from × AllBy i rest
AllBy i (pair s n ∷ rest) = AllBy i rest

-- n is less than what is left of round k at each level up to the split of the parent.
abbrev pub LessLeft : ℕ → ℕ → Option ℕ → Type 0
LessLeft k n None = Unit {0}
LessLeft k n (Some j) = n + j < k

abbrev pub AllMoreLeft : ℕ → ℕ → List Entry → Type 0
AllMoreLeft k n [] = Unit {0}
AllMoreLeft k n (part p from ∷ rest) = LessLeft k n from × AllMoreLeft k n rest
AllMoreLeft k n (pair s l ∷ rest) = AllMoreLeft k n rest

-- Below a half of what was split at step j, no parent was split later.
abbrev pub Newest : Option ℕ → List Entry → Type 0
Newest None rest = Unit {0}
Newest (Some j) rest = AllBy j rest

-- The parts and pairs of later steps stand above those of earlier ones, and each part begins in one state.
abbrev pub Ordered : ℕ → List Entry → Type 0
Ordered k [] = Unit {0}
Ordered k (part p from ∷ rest) = Newest from rest × BeginsInOneState p × Ordered k rest
Ordered k (pair s n ∷ rest) = AllMoreLeft k n rest × Ordered k rest

module _ (m : Meaning) (hopeless : ℕ → ℕ → Bool) (P : Pairs) (k : ℕ) where
  -- Of each level of p up to j, memory and estimator have said no, and each is one state; each stage but stage j is consistent;
  -- and only numbers of the task are left.
  pub record Answered (p : Structure) (j : ℕ) : Type 0 where
    pub quiet : (l : ℕ) → l ≤ j → (recalls P (state_of m p l) (k - l) || hopeless (state_of m p l) (k - l)) ≡ false
    pub single : (l f : ℕ) → l ≤ j → f < m.facts → p.possible l f true ≡ true → p.possible l f false ≢ true
    pub consistent : (l : ℕ) → l < p.round → (l ≢ j) → ConsistentStage m (stage p l)
    pub trim : p ≡ trimmed m p

  abbrev pub AnsweredHalf : Structure → Option ℕ → Type 0
  AnsweredHalf p None = Unit {0}
  AnsweredHalf p (Some j) = Answered p j

  -- So it is with each half above the oldest H entries.
  abbrev pub Fresh : ℕ → List Entry → Type 0
  Fresh H [] = Unit {0}
  Fresh H (part p from ∷ rest) = (H < suc (length rest) → AnsweredHalf p from) × Fresh H rest
  Fresh H (pair s n ∷ rest) = Fresh H rest

abbrev pub ARoundThatIsPutUpIsOrdered : Type 0
ARoundThatIsPutUpIsOrdered = (m : Meaning) → Lawful m → (bound k : ℕ) → Ordered k (put_up m bound k).entries

abbrev pub EveryStepKeepsTheOrder : Type 0
EveryStepKeepsTheOrder = (A : ℕ) (m : Meaning) → Lawful m → m.actions ≤ A → (recall hopeless : ℕ → ℕ → Bool) (S : Machine) (made : Made) → Step m recall hopeless S made
    → Shallow A S.round S.entries → Ordered S.round S.entries → Ordered made.machine.round made.machine.entries

-- A call begins with no answers: all entries are older than it.
abbrev pub ACallBeginsWithNoAnswers : Type 0
ACallBeginsWithNoAnswers = (m : Meaning) (hopeless : ℕ → ℕ → Bool) (P : Pairs) (k : ℕ) (entries : List Entry) → Fresh m hopeless P k (length entries) entries

-- A call that keeps count of the entries that it has not touched knows which answers it has.
abbrev pub EveryStepKeepsTheAnswers : Type 0
EveryStepKeepsTheAnswers = (A : ℕ) (m : Meaning) → Lawful m → m.actions ≤ A → (hopeless : ℕ → ℕ → Bool) (S : Machine) (P : Pairs) (made : Made) (P' : Pairs) (H : ℕ)
    → Step m (recalls P) hopeless S made → Keeps Pairs Kept made.keeps P P' → made.machine.stage ≡ unfinished
    → Shallow A S.round S.entries → Ordered S.round S.entries → Fresh m hopeless P S.round H S.entries
    → Fresh m hopeless P' made.machine.round (min H (min (length S.entries - 1) (length made.machine.entries))) made.machine.entries

-- Of the levels up to the split the answers stay no after filtering.
abbrev pub OnlyLaterLevelsNeedAsking : Type 0
OnlyLaterLevelsNeedAsking = (m : Meaning) (hopeless : ℕ → ℕ → Bool) (P : Pairs) (k : ℕ) (p : Structure) (j : ℕ) → Answered m hopeless P k p j → (q : Structure) → Filtered m p true q
    → (l : ℕ) → l ≤ j → l ≤ p.round → (recalls P (state_of m q l) (k - l) || hopeless (state_of m q l) (k - l)) ≡ false
