-- Parts as structures.
use Rattle.std.specs.Prelude.{◌≡◌, ℕ, ◌<◌, ◌≤◌, ◌&&◌, nat_le, nat_lt, slice_index_or}
use Rattle.sets.specs.Sets.{has, among, ActionSet}
use Rattle.sets.specs.declared.literals.Literals.{Literals}
use Rattle.filter.specs.declared.part.Part.{Part}
use Rattle.filter.specs.Structures.{Structure}

-- What stands past the end of the steps and of the levels.
abbrev pub no_actions : ActionSet
no_actions = record { bits = 0 }

abbrev pub no_literals : Literals
no_literals = record { trues = record { bits = 0 }; falses = record { bits = 0 } }

-- The actions at step i, and the values at level i.
abbrev pub step_at : Part → ℕ → ActionSet
step_at p i = slice_index_or p.steps i no_actions

abbrev pub level_at : Part → ℕ → Literals
level_at p i = slice_index_or p.levels i no_literals

-- The structure of a part: nothing is left past its round.
abbrev pub structure : Part → Structure
structure p = record {
  round = p.round;
  left = λ i a. nat_lt i p.round && among (step_at p i) a;
  possible = λ i f v. nat_le i p.round && has (level_at p i) f v;
}

-- What stands past the round is the same in both parts.
pub record SamePast (p q : Part) : Type 0 where
  pub steps : (i : ℕ) → p.round ≤ i → step_at q i ≡ step_at p i
  pub levels : (i : ℕ) → p.round < i → level_at q i ≡ level_at p i
