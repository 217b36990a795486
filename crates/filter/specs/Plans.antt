-- Plans in structures.
use Rattle.std.specs.Prelude.{◌≡◌, ℕ, ◌<◌, Bool, true, ◌&&◌, List, length, ◌==◌, nat_le, nat_lt, slice_index}
use Rattle.sets.specs.Bits.{bit}
use Rattle.sets.specs.Signs.{is}
use Rattle.tasks.specs.Meaning.{Meaning}
use Rattle.tasks.specs.States.{Holds, packed, start_state, state_at}
use Rattle.filter.specs.Structures.{Structure, Below}

-- The trace of a sequence of actions: at each step its action, at each level the values of the facts in the state that it
-- has reached.
abbrev pub trace : Meaning → List ℕ → Structure
trace m acts = record {
  round = length acts;
  left = λ i a. nat_lt i (length acts) && (a == slice_index acts i);
  possible = λ i f v. (nat_le i (length acts) && nat_lt f m.facts) && is v (bit (state_at m (start_state m) acts i) f);
}

-- A sequence is inside a structure: its trace is below it.
abbrev pub Inside : Meaning → Structure → List ℕ → Type 0
Inside m p acts = Below (trace m acts) p

-- Action a, and no other, is left at step i.
pub record Only (p : Structure) (i a : ℕ) : Type 0 where
  pub there : p.left i a ≡ true
  pub alone : (b : ℕ) → p.left i b ≡ true → b ≡ a

-- The first steps have one action left each: those of the sequence, in its order.
abbrev pub Fixes : Structure → List ℕ → Type 0
Fixes p acts = (i : ℕ) → i < length acts → Only p i (slice_index acts i)

-- Level 0 has no value against the start, the last level none against a goal, and only usable actions are left.
pub record Anchored (m : Meaning) (p : Structure) : Type 0 where
  pub start : (f : ℕ) (v : Bool) → f < m.facts → p.possible 0 f v ≡ true → v ≡ bit (start_state m) f
  pub goal : (f : ℕ) (v : Bool) → f < m.facts → p.possible p.round f v ≡ true → Holds (m.goal f) v
  pub usable : (i a : ℕ) → i < p.round → p.left i a ≡ true → m.usable a ≡ true

-- The state in which a fact is true where level j has the value true for it.
abbrev pub state_of : Meaning → Structure → ℕ → ℕ
state_of m p j = packed (λ f. p.possible j f true) m.facts
