-- How many sequences of actions there are to try.
use Rattle.std.specs.Prelude.{ℕ, zero, suc, ◌+◌, Bool, true, cond, not, ◌&&◌, ℤ, pos, negsuc}
use Rattle.sets.specs.Bits.{bit}
use Rattle.tasks.specs.Meaning.{Meaning}
use Rattle.tasks.specs.States.{after, start_state}

-- The number 1, 0 or -1 holds of a fact that is true or false.
abbrev pub agrees : ℤ → Bool → Bool
agrees (pos zero) b = true
agrees (pos (suc n)) b = b
agrees (negsuc n) b = not b

-- The test holds of all numbers below n.
abbrev pub every : (ℕ → Bool) → ℕ → Bool
every test zero = true
every test (suc n) = test n && every test n

-- The action applies in the state: it is usable, and what it needs holds.
unfoldable pub applicable : Meaning → ℕ → ℕ → Bool
applicable m s a = m.usable a && every (λ f. agrees (m.needs a f) (bit s f)) m.facts

-- The numbers of all below n, added.
abbrev pub sum : (ℕ → ℕ) → ℕ → ℕ
sum number zero = 0
sum number (suc n) = sum number n + number n

-- How many sequences of n actions there are that can be applied one after the other, from a state on.
unfoldable pub sequences : Meaning → ℕ → ℕ → ℕ
sequences m s zero = 1
sequences m s (suc n) = sum (λ a. cond (applicable m s a) (sequences m (after m s a) n) 0) m.actions

-- How many there are of up to n actions, from the start.
abbrev pub sequences_up_to : Meaning → ℕ → ℕ
sequences_up_to m n = sum (sequences m (start_state m)) (suc n)
