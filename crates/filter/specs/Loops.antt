-- What the filter's loop, and what restricting a part, leave.
use Rattle.std.specs.Prelude.{◌≡◌, ℕ, ◌<◌, ◌≤◌, Bool, ◌&&◌}
use Rattle.sets.specs.Sets.{has, among, ActionSet, StageSet}
use Rattle.sets.specs.declared.literals.Literals.{Literals}
use Rattle.tasks.specs.Meaning.{Meaning}
use Rattle.filter.specs.declared.outcome.Outcome.{Outcome}
use Rattle.filter.specs.declared.outcome.Outcome.TheVariants.{Kept, Wiped}
use Rattle.filter.specs.declared.part.Part.{Part}
use Rattle.filter.specs.Structures.{Structure, Below}
use Rattle.filter.specs.Filtering.{Consistent}
use Rattle.filter.specs.Parts.{step_at, level_at, SamePast}
use Rattle.filter.specs.Stages.{ConsistentButAt}
use Rattle.filter.specs.Turns.{raw, Factual, Narrowed}

-- The loop ended: nothing consistent was lost, and the part is consistent if it was at the stages that were not due; or
-- nothing consistent is below it.
abbrev pub Settling : Meaning → Part → StageSet → Outcome → Part → Type 0
Settling m p due Kept q = Narrowed m p q × (ConsistentButAt due m (raw p) → Consistent m (raw q))
Settling m p due Wiped q = ((x : Structure) → Consistent m x → Factual m x → Below x (raw p) → ⊥) × (q.round ≡ p.round) × SamePast p q

-- q is p with only what is given at the steps below the round and at the levels up to it.
pub record Restricted (p : Part) (actions : ActionSet) (values : Literals) (q : Part) : Type 0 where
  pub round : q.round ≡ p.round
  pub steps : (i a : ℕ) → i < p.round → among (step_at q i) a ≡ (among (step_at p i) a && among actions a)
  pub levels : (i f : ℕ) (v : Bool) → i ≤ p.round → has (level_at q i) f v ≡ (has (level_at p i) f v && has values f v)
  pub past : SamePast p q
