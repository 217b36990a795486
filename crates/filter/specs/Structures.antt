-- Structures: what is left of each step and of each level of a search, without regard to how it is stored.
use Rattle.std.specs.Prelude.{◌≡◌, ℕ, ◌<◌, ◌≤◌, Bool, true, false, ◌&&◌, nat_le, nat_lt}
use Rattle.tasks.specs.Meaning.{Meaning}

-- A structure of round k has steps 0 to k - 1 and levels 0 to k. `left i a`: action a is left at step i.
-- `possible i f v`: at level i, fact f may have the value v.
pub record Structure : Type 0 where
  pub round : ℕ
  pub left : ℕ → ℕ → Bool
  pub possible : ℕ → ℕ → Bool → Bool

-- q is of the same round as p, and has nothing that p does not have.
pub record Below (q p : Structure) : Type 0 where
  pub round : q.round ≡ p.round
  pub left : (i a : ℕ) → i < p.round → q.left i a ≡ true → p.left i a ≡ true
  pub possible : (i f : ℕ) (v : Bool) → i ≤ p.round → q.possible i f v ≡ true → p.possible i f v ≡ true

-- The structure less all that is past its round, past the task's actions or past the task's facts.
abbrev pub trimmed : Meaning → Structure → Structure
trimmed m p = record {
  round = p.round;
  left = λ i a. (nat_lt i p.round && nat_lt a m.actions) && p.left i a;
  possible = λ i f v. (nat_le i p.round && nat_lt f m.facts) && p.possible i f v;
}

-- The structure of round k in which every set of actions and of values is empty.
abbrev pub bare : ℕ → Structure
bare k = record { round = k; left = λ i a. false; possible = λ i f v. false }
