-- What every step keeps true of a search and of the pairs of its memory.
use Rattle.std.proofs.Common.{◌≡◌, ℕ, ◌+◌, ◌<◌, ◌≤◌, true, ◌⊎◌, List, [], ◌∷◌, ◌++◌, length, get_or, Some, None, Option}
use Rattle.sets.specs.Counts.{count}
use Rattle.tasks.specs.Meaning.{Meaning}
use Rattle.tasks.specs.States.{Reaches, Solves, Shortest, Hopeless}
use Rattle.memories.specs.Pairs.{Pairs}
use Rattle.filter.specs.Structures.{Structure}
use Rattle.filter.specs.Plans.{Inside, Anchored}
use Rattle.search.specs.Machines.{Entry, Machine}
use Rattle.search.specs.Machines.Entry.{part, pair}
use Rattle.search.specs.Machines.Stage.{unfinished, found, none}
use Rattle.search.specs.Depths.{Topped}

-- the actions of the sequence up to the step where the part's parent was split are left in it
abbrev pub Follows : Structure → Option ℕ → List ℕ → Type 0
Follows p None acts = Unit {0}
Follows p (Some j) acts = (i : ℕ) → i ≤ j → i < p.round → p.left i (get_or acts i 0) ≡ true

-- an open part holds every plan of the round that follows it, and before the split its steps have at most one action
pub record OpenEnded (m : Meaning) (k : ℕ) (p : Structure) (from : Option ℕ) : Type 0 where
  pub round : p.round ≡ k
  pub anchored : Anchored m p
  pub narrow : (j : ℕ) → from ≡ Some j → (i : ℕ) → i < j → count (p.left i) m.actions ≤ 1
  pub holds : (acts : List ℕ) → length acts ≡ k → Solves m acts → Follows p from acts → Inside m p acts

abbrev pub AllOpenEnded : Meaning → ℕ → List Entry → Type 0
AllOpenEnded m k [] = Unit {0}
AllOpenEnded m k (part p from ∷ rest) = OpenEnded m k p from × AllOpenEnded m k rest
AllOpenEnded m k (pair s n ∷ rest) = AllOpenEnded m k rest

-- a prefix leads from the start to s, and each plan that goes on from it by n actions is among `held`
pub record Awaits (m : Meaning) (k : ℕ) (held : List ℕ → Type 0) (s n : ℕ) : Type 0 where
  pub way : List ℕ
  pub long : length way + n ≡ k
  pub leads : (rest : List ℕ) → Reaches m s rest → Solves m (way ++ rest)
  pub rests : (rest : List ℕ) → length rest ≡ n → Reaches m s rest → held (way ++ rest)

-- read from the newest entry down, with the sequences that the parts so far hold: what a pair awaits is held above it, and each
-- plan of k actions is held by some part
abbrev pub Backed : Meaning → ℕ → (List ℕ → Type 0) → List Entry → Type 0
Backed m k held [] = (acts : List ℕ) → length acts ≡ k → Solves m acts → held acts
Backed m k held (part p from ∷ rest) = Backed m k (λ acts. held acts ⊎ Inside m p acts) rest
Backed m k held (pair s n ∷ rest) = Awaits m k held s n × Backed m k held rest

-- no plan has fewer than k actions
abbrev pub NoneShorter : Meaning → ℕ → Type 0
NoneShorter m k = (acts : List ℕ) → Solves m acts → k ≤ length acts

pub record Going (m : Meaning) (S : Machine) : Type 0 where
  pub within : S.round ≤ S.bound
  pub shorter : NoneShorter m S.round
  pub ended : AllOpenEnded m S.round S.entries
  pub backed : Backed m S.round (λ _. ⊥) S.entries
  pub topped : Topped S.entries

-- the pairs of the memory are true
abbrev pub Honest : Meaning → Pairs → Type 0
Honest m P = (s n : ℕ) → P s n ≡ true → Hopeless m s n

pub record Invariant (m : Meaning) (S : Machine) (P : Pairs) : Type 0 where
  pub honest : Honest m P
  pub going : S.stage ≡ unfinished → Going m S
  pub plan : (acts : List ℕ) → S.stage ≡ found acts → Shortest m acts × (length acts ≤ S.bound)
  pub nothing : S.stage ≡ none → NoneShorter m (S.bound + 1)
