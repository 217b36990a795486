-- A search as a machine: its stage, its bound, its round and what is open in it, without regard to how it is stored.
use Rattle.std.specs.Prelude.{ℕ, List, Option}
use Rattle.filter.specs.Structures.{Structure}

-- What is open: a part, with the step that its parent was split at, none for the first part of a round;
-- or a pair (state, left) that is due to be kept once everything above it is gone.
pub data Entry : Type 0 where
  part : Structure → Option ℕ → Entry
  pair : ℕ → ℕ → Entry

-- The verdict that stands: the search was never opened, goes on, has found a plan, or has found that there is none.
pub data Stage : Type 0 where
  blank : Stage
  unfinished : Stage
  found : List ℕ → Stage
  none : Stage

-- The entries have the newest first. Round k looks for plans of k actions; the bound is the last round.
pub record Machine : Type 0 where
  pub stage : Stage
  pub bound : ℕ
  pub round : ℕ
  pub entries : List Entry

-- What a step makes: the machine after it, and the pairs that it keeps, in their order.
pub record Made : Type 0 where
  pub machine : Machine
  pub keeps : List (ℕ × ℕ)
