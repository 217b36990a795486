-- What the filter leaves of a structure.
use Rattle.std.specs.Prelude.{◌≡◌, ℕ, ◌<◌, ◌≤◌, Bool, true, false, ◌||◌}
use Rattle.tasks.specs.Meaning.{Meaning}
use Rattle.filter.specs.Structures.{Structure, Below, trimmed, bare}
use Rattle.filter.specs.Rules.{Closed, Stage, Settled}

-- A structure is consistent: no rule removes anything, an action is left at each step, and a value of each fact at each
-- level.
pub record Consistent (m : Meaning) (p : Structure) : Type 0 where
  pub closed : Closed m p
  pub action : (i : ℕ) → i < p.round → ((a : ℕ) → p.left i a ≡ false) → ⊥
  pub value : (i f : ℕ) → i ≤ p.round → f < m.facts → (p.possible i f true || p.possible i f false) ≡ true

-- The same of one stage. A structure with a step is consistent where each of its stages is.
pub record ConsistentStage (m : Meaning) (g : Stage) : Type 0 where
  pub settled : Settled m g
  pub action : ((a : ℕ) → g.left a ≡ false) → ⊥
  pub before : (f : ℕ) → f < m.facts → (g.before f true || g.before f false) ≡ true
  pub after : (f : ℕ) → f < m.facts → (g.after f true || g.after f false) ≡ true

-- q is the largest consistent structure below p, numbers past the task left out: each other is below it.
pub record Largest (m : Meaning) (p q : Structure) : Type 0 where
  pub consistent : Consistent m q
  pub below : Below q (trimmed m p)
  pub above : (x : Structure) → Consistent m x → Below x (trimmed m p) → Below x q
  pub trim : q ≡ trimmed m q

-- What the filter makes of p: it stands, and the largest consistent structure below it is left;
-- or there is none, and every set of actions and of values is left empty.
pub data Filtered (m : Meaning) (p : Structure) (stands : Bool) (q : Structure) : Type 0 where
  kept : stands ≡ true → Largest m p q → Filtered m p stands q
  wiped : stands ≡ false → ((x : Structure) → Consistent m x → Below x (trimmed m p) → ⊥) → q ≡ bare p.round → Filtered m p stands q
