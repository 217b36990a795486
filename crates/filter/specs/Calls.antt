-- What the filter's calls answer, and what they leave of the part.
use Rattle.std.specs.Prelude.{◌≡◌, ℕ, ◌<◌, ◌≤◌, Bool, true, false, List, Ok, Err, Result}
use Rattle.tasks.specs.Meaning.{Meaning}
use Rattle.tasks.specs.States.{Solves}
use Rattle.filter.specs.declared.outcome.Outcome.{Outcome}
use Rattle.filter.specs.declared.outcome.Outcome.TheVariants.{Kept, Wiped}
use Rattle.filter.specs.declared.part.Part.{Part}
use Rattle.filter.specs.declared.refusal.Refusal.{Refusal}
use Rattle.filter.specs.declared.refusal.Refusal.TheVariants.{Round}
use Rattle.sets.specs.Sets.{StageSet}
use Rattle.filter.specs.Structures.{Structure, Below, trimmed, bare}
use Rattle.filter.specs.Filtering.{Consistent, Filtered}
use Rattle.filter.specs.Parts.{structure, SamePast}
use Rattle.filter.specs.Plans.{Inside}
use Rattle.filter.specs.Stages.{ConsistentButAt}

-- The part stands.
abbrev pub stands : Outcome → Bool
stands Kept = true
stands Wiped = false

-- Filtering: of a part of a round up to 30 it leaves what is consistent, or nothing, and what is past the round stays. A
-- higher round is refused, and the part stays as it is.
abbrev pub Filters : Meaning → Part → Result Outcome Refusal → Part → Type 0
Filters m p (Ok o) q = (p.round ≤ 30) × Filtered m (structure p) (stands o) (structure q) × SamePast p q
Filters m p (Err e) q = (30 < p.round) × (e ≡ Round) × (q ≡ p)

-- A plan inside a part that is not refused is inside what is left, and the part is not wiped.
abbrev pub LosesNoPlan : Meaning → Part → Result Outcome Refusal → Part → Type 0
LosesNoPlan m p r q = p.round ≤ 30 → (acts : List ℕ) → Solves m acts → Inside m (structure p) acts → (r ≡ Ok Kept) × Inside m (structure q) acts

-- Nothing was added, and nothing that a consistent structure below p has was lost; a part that is wiped has none below it.
abbrev pub Narrows : Meaning → Structure → Outcome → Structure → Type 0
Narrows m p Kept q = Below q p × ((x : Structure) → Consistent m x → Below x (trimmed m p) → Below x q)
Narrows m p Wiped q = (q ≡ bare p.round) × ((x : Structure) → Consistent m x → Below x (trimmed m p) → ⊥)

-- Filtering from the stages of a set: it never loses anything consistent, and of a part that has only numbers of the task
-- and is consistent at every other stage it leaves what filtering leaves.
abbrev pub FiltersFrom : StageSet → Meaning → Part → Result Outcome Refusal → Part → Type 0
FiltersFrom due m p (Ok o) q =
    (p.round ≤ 30) × Narrows m (structure p) o (structure q) × SamePast p q
    × (ConsistentButAt due m (structure p) → structure p ≡ trimmed m (structure p) → Filtered m (structure p) (stands o) (structure q))
FiltersFrom due m p (Err e) q = (30 < p.round) × (e ≡ Round) × (q ≡ p)
