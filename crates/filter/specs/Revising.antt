-- What the revision of one stage leaves.
use Rattle.std.specs.Prelude.{◌≡◌, ℕ, ◌<◌, ◌≤◌, Bool, true, false, ◌||◌}
use Rattle.sets.specs.Sets.{has, among}
use Rattle.tasks.specs.Meaning.{Meaning}
use Rattle.filter.specs.declared.stage.StageMasks.{StageMasks}
use Rattle.filter.specs.Rules.{Stage, Settled}

-- The stage that masks stand for.
abbrev pub view : StageMasks → Stage
view g = record { before = has g.before; left = among g.left; after = has g.after }

-- The stage g has nothing that h does not have.
pub record StageBelow (g h : Stage) : Type 0 where
  pub before : (f : ℕ) (v : Bool) → g.before f v ≡ true → h.before f v ≡ true
  pub left : (a : ℕ) → g.left a ≡ true → h.left a ≡ true
  pub after : (f : ℕ) (v : Bool) → g.after f v ≡ true → h.after f v ≡ true

-- Only facts of the task have values at the stage.
pub record OfTask (m : Meaning) (g : Stage) : Type 0 where
  pub before : (f : ℕ) (v : Bool) → g.before f v ≡ true → f < m.facts
  pub after : (f : ℕ) (v : Bool) → g.after f v ≡ true → f < m.facts

-- Each word of h is no larger a number than that of g.
pub record Fewer (h g : StageMasks) : Type 0 where
  pub before_trues : h.before.trues.bits ≤ g.before.trues.bits
  pub before_falses : h.before.falses.bits ≤ g.before.falses.bits
  pub actions : h.left.bits ≤ g.left.bits
  pub after_trues : h.after.trues.bits ≤ g.after.trues.bits
  pub after_falses : h.after.falses.bits ≤ g.after.falses.bits

-- h is left of g: nothing is added, nothing that a settled stage below g has is lost, and where the values before stayed
-- as they were and nothing is empty, h is settled.
pub record Revised (m : Meaning) (g h : StageMasks) : Type 0 where
  pub less : StageBelow (view h) (view g)
  pub keeps : (x : Stage) → Settled m x → OfTask m x → StageBelow x (view g) → StageBelow x (view h)
  pub settled : h.before ≡ g.before → ((f : ℕ) → f < m.facts → (has h.before f true || has h.before f false) ≡ true) → Settled m (view h)
  pub fewer : Fewer h g
