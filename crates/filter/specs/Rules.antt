-- The seven rules by which actions and values are removed. Each looks at one stage: a level, the step after it, and the
-- level after that.
use Rattle.std.specs.Prelude.{◌≡◌, ℕ, suc, ◌<◌, Bool, true, false, not, ◌≢◌}
use Rattle.tasks.specs.Meaning.{Meaning, value, opposite}
use Rattle.filter.specs.Structures.{Structure}

-- A stage: the values possible before the step, the actions left at it, the values possible after it.
pub record Stage : Type 0 where
  pub before : ℕ → Bool → Bool
  pub left : ℕ → Bool
  pub after : ℕ → Bool → Bool

-- Stage i of a structure.
abbrev pub stage : Structure → ℕ → Stage
stage p i = record { before = p.possible i; left = p.left i; after = p.possible (suc i) }

module _ (m : Meaning) (g : Stage) where
  -- A literal after the step was not possible before it, and no action left makes it.
  abbrev pub NeitherPossibleBeforeNorMade : ℕ → Bool → Type 0
  NeitherPossibleBeforeNorMade f v = (g.before f v ≡ false) × ((a : ℕ) → g.left a ≡ true → m.makes a f ≢ value v)

  -- Of a literal after the step, every action left makes the opposite.
  abbrev pub OppositeAlwaysMade : ℕ → Bool → Type 0
  OppositeAlwaysMade f v = (a : ℕ) → g.left a ≡ true → m.makes a f ≡ opposite (value v)

  -- A literal before the step is not possible after it, and no action left makes its opposite.
  abbrev pub NeitherPossibleAfterNorUndone : ℕ → Bool → Type 0
  NeitherPossibleAfterNorUndone f v = (g.after f v ≡ false) × ((a : ℕ) → g.left a ≡ true → m.makes a f ≢ opposite (value v))

  -- Of a literal before the step, every action left needs the opposite.
  abbrev pub OppositeAlwaysNeeded : ℕ → Bool → Type 0
  OppositeAlwaysNeeded f v = (a : ℕ) → g.left a ≡ true → m.needs a f ≡ opposite (value v)

  -- An action needs a literal that is not possible before the step.
  abbrev pub NeedsTheImpossible : ℕ → Type 0
  NeedsTheImpossible a = (f : ℕ) × (v : Bool) × (f < m.facts) × (m.needs a f ≡ value v) × (g.before f v ≡ false)

  -- An action makes a literal that is not possible after the step.
  abbrev pub MakesTheImpossible : ℕ → Type 0
  MakesTheImpossible a = (f : ℕ) × (v : Bool) × (f < m.facts) × (m.makes a f ≡ value v) × (g.after f v ≡ false)

  -- Some literal is not possible before the step, its opposite is not possible after it, and the action does not make it.
  abbrev pub MissesARequiredChange : ℕ → Type 0
  MissesARequiredChange a = (f : ℕ) × (v : Bool) × (f < m.facts) × (g.before f v ≡ false) × (g.after f (not v) ≡ false) × (m.makes a f ≢ value v)

  -- No rule removes anything that is left at the stage.
  pub record Settled : Type 0 where
    pub neither_possible_before_nor_made : (f : ℕ) (v : Bool) → f < m.facts → g.after f v ≡ true → NeitherPossibleBeforeNorMade f v → ⊥
    pub opposite_always_made : (f : ℕ) (v : Bool) → f < m.facts → g.after f v ≡ true → OppositeAlwaysMade f v → ⊥
    pub neither_possible_after_nor_undone : (f : ℕ) (v : Bool) → f < m.facts → g.before f v ≡ true → NeitherPossibleAfterNorUndone f v → ⊥
    pub opposite_always_needed : (f : ℕ) (v : Bool) → f < m.facts → g.before f v ≡ true → OppositeAlwaysNeeded f v → ⊥
    pub needs_the_impossible : (a : ℕ) → g.left a ≡ true → NeedsTheImpossible a → ⊥
    pub makes_the_impossible : (a : ℕ) → g.left a ≡ true → MakesTheImpossible a → ⊥
    pub misses_a_required_change : (a : ℕ) → g.left a ≡ true → MissesARequiredChange a → ⊥

-- No rule removes anything at any stage.
abbrev pub Closed : Meaning → Structure → Type 0
Closed m p = (i : ℕ) → i < p.round → Settled m (stage p i)
