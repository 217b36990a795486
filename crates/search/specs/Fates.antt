-- What becomes of a part, as it is stored.
use Rattle.std.specs.Prelude.{◌≡◌, ℕ, ◌-◌, ◌≤◌, Bool, cond, not, List, [], ◌∷◌, Some, Option}
use Rattle.tasks.specs.Meaning.{Meaning}
use Rattle.filter.specs.Structures.{Structure}
use Rattle.filter.specs.Filtering.{Filtered}
use Rattle.filter.specs.Parts.{structure}
use Rattle.filter.specs.Plans.{state_of}
use Rattle.search.specs.declared.fate.Fate.{Fate}
use Rattle.search.specs.declared.fate.Fate.TheVariants.{Dropped, Found, Split}
use Rattle.search.specs.declared.fate.Halves.{Halves}
use Rattle.search.specs.Machines.{Entry, Made}
use Rattle.search.specs.Machines.Entry.{part, pair}
use Rattle.search.specs.Machines.Stage.{unfinished, found}
use Rattle.search.specs.Parts.{actions_of}
use Rattle.search.specs.Steps.{best_below, earlier, first_half, half, next, settle}

-- What a fate makes of the search whose newest part it is.
abbrev pub effect : Meaning → Fate → ℕ → ℕ → Option ℕ → List Entry → Made
effect m Dropped bound k from rest = settle m bound k [] rest
effect m (Found p) bound k from rest = record { machine = record { stage = found (actions_of p); bound = bound; round = k; entries = rest }; keeps = [] }
effect m (Split h) bound k from rest = record {
  machine = record { stage = unfinished; bound = bound; round = k; entries = part (structure h.first.part) (Some h.step) ∷ part (structure h.second.part) (Some h.step) ∷ cond (earlier from h.step) (pair h.state (k - h.step) ∷ rest) rest };
  keeps = [];
}

-- A part is split at no step later than k.
abbrev pub StepWithin : Fate → ℕ → Type 0
StepWithin Dropped k = Unit {0}
StepWithin (Found p) k = Unit {0}
StepWithin (Split h) k = h.step ≤ k

-- Of what the filter left the fate is what one step makes of it, in every search.
abbrev pub ComesTo : Meaning → (ℕ → ℕ → Bool) → (ℕ → ℕ → Bool) → Structure → Bool → Fate → Type 0
ComesTo m recall hopeless q stands fate =
    (bound : ℕ) (from : Option ℕ) (rest : List Entry) → next m recall hopeless bound q.round from q rest stands ≡ effect m fate bound q.round from rest

-- The part is filtered, and the fate is what one step makes of it.
pub record Decided (m : Meaning) (recall hopeless : ℕ → ℕ → Bool) (p : Structure) (fate : Fate) : Type 0 where
  pub stands : Bool
  pub result : Structure
  pub filtered : Filtered m p stands result
  pub comes : ComesTo m recall hopeless result stands fate

-- The two halves of a step, the state before it, and the step.
pub record Halved (m : Meaning) (q : Structure) (i : ℕ) (h : Halves) : Type 0 where
  pub step : h.step ≡ i
  pub state : h.state ≡ state_of m q i
  pub first : structure h.first.part ≡ half m q i (first_half m q i (best_below m q i m.facts))
  pub second : structure h.second.part ≡ half m q i (λ a. not (first_half m q i (best_below m q i m.facts) a))
