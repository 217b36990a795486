-- What the inner functions of one stage's revision compute, in the words of its masks.
use Rattle.std.specs.Prelude.{◌≡◌, ℕ, ◌<◌, Bool, true, false, not, ◌&&◌, ◌||◌, ℤ, ◌≢◌, ◌==◌, nat_lt}
use Rattle.sets.specs.Sets.{has, among, ActionSet}
use Rattle.sets.specs.declared.literals.Literals.{Literals}
use Rattle.tasks.specs.declared.row.Row.{Row}
use Rattle.tasks.specs.Meaning.{Meaning, value}
use Rattle.filter.specs.declared.stage.StageMasks.{StageMasks}
use Rattle.filter.specs.declared.stage.Survey.{Survey}

-- An action of this row may stay at the stage, where each literal of `required` has to be made.
pub record Fits (row : Row) (g : StageMasks) (required : Literals) : Type 0 where
  pub needs : (f : ℕ) (v : Bool) → has row.needs f v ≡ true → has g.before f v ≡ true
  pub makes : (f : ℕ) (v : Bool) → has row.makes f v ≡ true → has g.after f v ≡ true
  pub turns : (f : ℕ) (v : Bool) → has required f v ≡ true → has row.makes f v ≡ true

-- The same of an action by its number.
pub record Fit (m : Meaning) (g : StageMasks) (required : Literals) (a : ℕ) : Type 0 where
  pub needs : (f : ℕ) (v : Bool) → m.needs a f ≡ value v → has g.before f v ≡ true
  pub makes : (f : ℕ) (v : Bool) → m.makes a f ≡ value v → has g.after f v ≡ true
  pub turns : (f : ℕ) (v : Bool) → has required f v ≡ true → m.makes a f ≡ value v

-- `some` has the literals that the numbers of some action in the set say.
pub record Joined (numbers : ℕ → ℕ → ℤ) (set : ActionSet) (some : Literals) : Type 0 where
  pub each : (a f : ℕ) (v : Bool) → among set a ≡ true → numbers a f ≡ value v → has some f v ≡ true
  pub only : (f : ℕ) (v : Bool) → ((a : ℕ) → among set a ≡ true → numbers a f ≢ value v) → has some f v ≡ false

-- `all` has the literals that the numbers of every action in the set say.
pub record Met (facts : ℕ) (numbers : ℕ → ℕ → ℤ) (set : ActionSet) (all : Literals) : Type 0 where
  pub each : (a f : ℕ) (v : Bool) → among set a ≡ true → has all f v ≡ true → numbers a f ≡ value v
  pub only : (f : ℕ) (v : Bool) → f < facts → ((a : ℕ) → among set a ≡ true → numbers a f ≡ value v) → has all f v ≡ true

-- t is the survey s with action a, which has this row.
pub record Joins (s : Survey) (a : ℕ) (row : Row) (t : Survey) : Type 0 where
  pub left : (b : ℕ) → among t.left b ≡ (among s.left b || (nat_lt a 128 && b == a))
  pub made : (f : ℕ) (v : Bool) → has t.made f v ≡ (has s.made f v || has row.makes f v)
  pub agreed : (f : ℕ) (v : Bool) → has t.agreed f v ≡ (has s.agreed f v && has row.makes f v)
  pub wanted : (f : ℕ) (v : Bool) → has t.wanted f v ≡ (has s.wanted f v && has row.needs f v)

-- The actions of the stage that are not in `rest` have been looked at.
pub record Looked (m : Meaning) (g : StageMasks) (required : Literals) (rest : ActionSet) (s : Survey) : Type 0 where
  pub rests : (a : ℕ) → among rest a ≡ true → among g.left a ≡ true
  pub from : (a : ℕ) → among s.left a ≡ true → among g.left a ≡ true
  pub fit : (a : ℕ) → among s.left a ≡ true → Fit m g required a
  pub stays : (a : ℕ) → among g.left a ≡ true → among rest a ≡ false → Fit m g required a → among s.left a ≡ true
  pub making : Joined m.makes s.left s.made
  pub agreeing : Met m.facts m.makes s.left s.agreed
  pub wanting : Met m.facts m.needs s.left s.wanted

-- All actions of the stage have been looked at.
pub record Surveyed (m : Meaning) (g : StageMasks) (required : Literals) (s : Survey) : Type 0 where
  pub from : (a : ℕ) → among s.left a ≡ true → among g.left a ≡ true
  pub fit : (a : ℕ) → among s.left a ≡ true → Fit m g required a
  pub stays : (a : ℕ) → among g.left a ≡ true → Fit m g required a → among s.left a ≡ true
  pub making : Joined m.makes s.left s.made
  pub agreeing : Met m.facts m.makes s.left s.agreed
  pub wanting : Met m.facts m.needs s.left s.wanted

-- Each fact that has a value in `all` has one here.
abbrev pub Covers : Literals → Literals → Type 0
Covers here all = (f : ℕ) (v : Bool) → has all f v ≡ true → (has here f v || has here f (not v)) ≡ true

-- An action is left, and each fact has a value before and after.
pub record WholeStage (all : Literals) (g : StageMasks) : Type 0 where
  pub action : ((a : ℕ) → among g.left a ≡ false) → ⊥
  pub before : Covers g.before all
  pub after : Covers g.after all
