-- States, what an action does to one, and which sequences of actions reach the goals.
use Rattle.std.specs.Prelude.{◌≡◌, ℕ, zero, suc, ◌+◌, ◌*◌, ◌^◌, ◌<◌, ◌≤◌, Bool, true, false, cond, List, [], ◌∷◌, length, ℤ, pos, negsuc}
use Rattle.sets.specs.Bits.{bit}
use Rattle.tasks.specs.Meaning.{Meaning}

-- A state is a number whose bit f is set where fact f is true. Bits past the facts say nothing.

-- The number 1, 0 or -1 holds of a fact that is true or false.
abbrev pub Holds : ℤ → Bool → Type 0
Holds z b = (z ≡ pos 1 → b ≡ true) × (z ≡ negsuc 0 → b ≡ false)

-- Each number holds in the state.
abbrev pub Meets : ℕ → (ℕ → ℤ) → ℕ → Type 0
Meets facts numbers s = (f : ℕ) → f < facts → Holds (numbers f) (bit s f)

-- An action applies in a state: it is usable, and what it needs holds.
pub record Applies (m : Meaning) (s a : ℕ) : Type 0 where
  pub usable : m.usable a ≡ true
  pub met : Meets m.facts (m.needs a) s

-- A fact after a number was set.
abbrev pub put : ℤ → Bool → Bool
put (pos zero) b = b
put (pos (suc n)) b = true
put (negsuc n) b = false

-- The number whose bits below n are those of b.
unfoldable pub packed : (ℕ → Bool) → ℕ → ℕ
packed b zero = 0
packed b (suc n) = packed b n + cond (b n) 1 0 * 2 ^ n

-- The state that an action leaves: what it makes is set, all else stays.
abbrev pub after : Meaning → ℕ → ℕ → ℕ
after m s a = packed (λ f. put (m.makes a f) (bit s f)) m.facts

-- The goals hold in a state.
abbrev pub GoalsHold : Meaning → ℕ → Type 0
GoalsHold m s = Meets m.facts m.goal s

-- A sequence of actions reaches the goals from a state: each applies in turn, and the goals hold after the last.
abbrev pub Reaches : Meaning → ℕ → List ℕ → Type 0
Reaches m s [] = GoalsHold m s
Reaches m s (a ∷ rest) = Applies m s a × Reaches m (after m s a) rest

-- The state that the task starts in.
abbrev pub start_state : Meaning → ℕ
start_state m = packed (λ f. put (m.start f) false) m.facts

-- A solution: a sequence that reaches the goals from the start.
abbrev pub Solves : Meaning → List ℕ → Type 0
Solves m acts = Reaches m (start_state m) acts

-- A shortest solution: every other has at least as many actions.
pub record Shortest (m : Meaning) (acts : List ℕ) : Type 0 where
  pub solves : Solves m acts
  pub least : (others : List ℕ) → Solves m others → length acts ≤ length others

-- Some sequence of up to n actions reaches the goals from the start.
abbrev pub Solvable : Meaning → ℕ → Type 0
Solvable m n = (acts : List ℕ) × (length acts ≤ n) × Solves m acts

-- No sequence of up to n actions reaches the goals from the state.
abbrev pub Hopeless : Meaning → ℕ → ℕ → Type 0
Hopeless m s n = (acts : List ℕ) → length acts ≤ n → Reaches m s acts → ⊥

-- The state after the first i actions.
abbrev pub state_at : Meaning → ℕ → List ℕ → ℕ → ℕ
state_at m s acts zero = s
state_at m s [] (suc i) = s
state_at m s (a ∷ acts) (suc i) = state_at m (after m s a) acts i
