-- One turn of the filter's loop, and what the loop keeps.
use Rattle.std.specs.Prelude.{◌≡◌, ℕ, suc, ◌+◌, ◌*◌, ◌^◌, ◌<◌, ◌≤◌, Bool, true, false, ◌⊎◌, Some, None, sum_by, Option, ◌≢◌, slice_set}
use Rattle.sets.specs.Sets.{has, among, ActionSet, StageSet, marked}
use Rattle.sets.specs.declared.literals.Literals.{Literals}
use Rattle.tasks.specs.Meaning.{Meaning}
use Rattle.filter.specs.declared.part.Part.{Part}
use Rattle.filter.specs.declared.stage.StageMasks.{StageMasks}
use Rattle.filter.specs.Structures.{Structure, Below}
use Rattle.filter.specs.Rules.{stage}
use Rattle.filter.specs.Filtering.{Consistent, ConsistentStage}
use Rattle.filter.specs.Parts.{step_at, level_at, SamePast}
use Rattle.filter.specs.Stages.{ConsistentButAt}

-- Stage i of a part, as it is stored.
abbrev pub stage_at : Part → ℕ → StageMasks
stage_at p i = record { before = level_at p i; left = step_at p i; after = level_at p (suc i) }

-- A part as a structure, with what is stored past its round.
abbrev pub raw : Part → Structure
raw p = record { round = p.round; left = λ i. among (step_at p i); possible = λ i. has (level_at p i) }

-- q is p with stage i put in place.
pub record Placed (p : Part) (i : ℕ) (g : StageMasks) (q : Part) : Type 0 where
  pub round : q.round ≡ p.round
  pub steps : q.steps ≡ slice_set p.steps i g.left
  pub levels : q.levels ≡ slice_set (slice_set p.levels i g.before) (suc i) g.after

-- All words of a part added up as numbers: less where something went.
abbrev pub size : Literals → ℕ
size v = v.trues.bits + v.falses.bits

abbrev pub bulk : ActionSet → ℕ
bulk v = v.bits

unfoldable pub weight : Part → ℕ
weight p = sum_by size p.levels + sum_by bulk p.steps

-- Falls with each turn: the part loses something, or one stage less is due.
abbrev pub burden : Part → StageSet → ℕ
burden p due = weight p * 2 ^ 32 + due.bits

-- Only stages below the limit are in the set.
abbrev pub Under : ℕ → StageSet → Type 0
Under limit due = (i : ℕ) → marked due i ≡ true → i < limit

-- Only facts of the task have values.
abbrev pub Factual : Meaning → Structure → Type 0
Factual m x = (i f : ℕ) (v : Bool) → i ≤ x.round → x.possible i f v ≡ true → f < m.facts

-- The stages due after stage i has changed: those that were, stage i where the level before it changed, and the neighbour
-- of a level that changed.
pub record Touched (due : StageSet) (i round : ℕ) (before after : Bool) (r : StageSet) : Type 0 where
  pub old : (j : ℕ) → marked due j ≡ true → marked r j ≡ true
  pub here : before ≡ true → marked r i ≡ true
  pub prior : before ≡ true → (j : ℕ) → suc j ≡ i → marked r j ≡ true
  pub later : after ≡ true → suc i < round → marked r (suc i) ≡ true
  pub under : Under round r
  pub same : before ≡ false → after ≡ false → r ≡ due

-- Nothing was added from p to q, and nothing that a consistent structure below p has was lost.
pub record Narrowed (m : Meaning) (p q : Part) : Type 0 where
  pub round : q.round ≡ p.round
  pub less : Below (raw q) (raw p)
  pub keeps : (x : Structure) → Consistent m x → Factual m x → Below x (raw p) → Below x (raw q)
  pub past : SamePast p q

-- Stage i of p was revised, which gave q, and now the stages of `next` are due, where those of `due` were besides stage i.
pub record Advanced (m : Meaning) (p : Part) (i : ℕ) (due next : StageSet) (q : Part) : Type 0 where
  pub narrowed : Narrowed m p q
  pub under : Under p.round next
  pub firm : (j : ℕ) → j < p.round → marked next j ≡ false
      → (marked due j ≡ false → (j ≢ i) → ConsistentStage m (stage (raw p) j)) → ConsistentStage m (stage (raw q) j)
  pub falls : (weight q < weight p) ⊎ ((next ≡ due) × (weight q ≤ weight p))

-- A turn of the loop: it goes on, or no consistent structure is below p.
abbrev pub Turned : Meaning → Part → ℕ → StageSet → Option StageSet → Part → Type 0
Turned m p i due None q = ((x : Structure) → Consistent m x → Factual m x → Below x (raw p) → ⊥) × (q ≡ p)
Turned m p i due (Some next) q = Advanced m p i due next q

-- What the loop keeps: it began with part o and the set first of stages due, and has come to part p and the set due.
pub record Progressed (m : Meaning) (o : Part) (first : StageSet) (p : Part) (due : StageSet) : Type 0 where
  pub narrowed : Narrowed m o p
  pub under : Under o.round due
  pub firm : ConsistentButAt first m (raw o) → ConsistentButAt due m (raw p)
