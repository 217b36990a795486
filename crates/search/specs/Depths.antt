-- How many entries can be open at once, whatever tasks are passed. A is the number of actions that a set can hold, k the round.
use Rattle.std.specs.Prelude.{◌≡◌, ℕ, zero, suc, ◌+◌, ◌-◌, ◌*◌, ◌<◌, ◌≤◌, Bool, List, [], ◌∷◌, length, Some, None, Option}
use Rattle.sets.specs.Counts.{count}
use Rattle.tasks.specs.Meaning.{Meaning}
use Rattle.filter.specs.Structures.{Structure}
use Rattle.search.specs.Machines.{Entry, Machine, Made}
use Rattle.search.specs.Machines.Entry.{part, pair}
use Rattle.search.specs.Machines.Stage.{unfinished}
use Rattle.search.specs.Steps.{put_up, Step}

-- The actions beyond one at each of the first k steps.
abbrev pub spare : ℕ → Structure → ℕ → ℕ
spare A p zero = 0
spare A p (suc k) = (count (p.left k) A - 1) + spare A p k

-- How many of the entries are parts.
abbrev pub parts : List Entry → ℕ
parts [] = 0
parts (part p from ∷ rest) = suc (parts rest)
parts (pair s n ∷ rest) = parts rest

-- Each pair has more left than n.
abbrev pub Above : ℕ → List Entry → Type 0
Above n [] = Unit {0}
Above n (part p from ∷ rest) = Above n rest
Above n (pair s l ∷ rest) = (n < l) × Above n rest

-- The first part of a round has nothing below it. A half of what was split at step j has at most one action at each earlier
-- step, and the pairs below it are of step j or of earlier steps.
abbrev pub Placed : ℕ → ℕ → Structure → Option ℕ → List Entry → Type 0
Placed A k p None [] = Unit {0}
Placed A k p None (e ∷ rest) = ⊥
Placed A k p (Some j) rest = Above (k - suc j) rest × ((i : ℕ) → i < j → count (p.left i) A ≤ 1)

-- Each part is of round k, and has room for as many parts above it as it has actions to spare; pairs have less left the newer they are.
abbrev pub Shallow : ℕ → ℕ → List Entry → Type 0
Shallow A k [] = Unit {0}
Shallow A k (part p from ∷ rest) = (p.round ≡ k) × (parts rest + spare A p k ≤ k * (A - 1)) × Placed A k p from rest × Shallow A k rest
Shallow A k (pair s n ∷ rest) = (1 ≤ n) × (n ≤ k) × Above n rest × Shallow A k rest

-- The newest entry is a part.
abbrev pub Topped : List Entry → Type 0
Topped [] = ⊥
Topped (part p from ∷ rest) = Unit {0}
Topped (pair s n ∷ rest) = ⊥

abbrev pub AShallowStackIsShort : Type 0
AShallowStackIsShort = (A k : ℕ) (entries : List Entry) → Shallow A k entries → length entries ≤ k * (A - 1) + k + 1

abbrev pub ARoundThatIsPutUpIsShallow : Type 0
ARoundThatIsPutUpIsShallow = (A : ℕ) (m : Meaning) (bound k : ℕ) → Shallow A k (put_up m bound k).entries

abbrev pub EveryStepKeepsTheStackShallow : Type 0
EveryStepKeepsTheStackShallow = (A : ℕ) (m : Meaning) → m.actions ≤ A → (recall hopeless : ℕ → ℕ → Bool) (S : Machine) (made : Made)
    → Step m recall hopeless S made → Shallow A S.round S.entries → Shallow A made.machine.round made.machine.entries

-- While the search goes on there is a part to take up.
abbrev pub EveryStepLeavesAPartOnTop : Type 0
EveryStepLeavesAPartOnTop = (m : Meaning) (recall hopeless : ℕ → ℕ → Bool) (S : Machine) (made : Made)
    → Step m recall hopeless S made → made.machine.stage ≡ unfinished → Topped made.machine.entries

-- The bound stays, and the round does not pass it.
abbrev pub EveryStepKeepsTheRoundWithinTheBound : Type 0
EveryStepKeepsTheRoundWithinTheBound = (m : Meaning) (recall hopeless : ℕ → ℕ → Bool) (S : Machine) (made : Made)
    → Step m recall hopeless S made → (made.machine.bound ≡ S.bound) × (S.round ≤ S.bound → made.machine.round ≤ S.bound)
