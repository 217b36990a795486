-- The amount of work that always decides.
use Rattle.std.specs.Prelude.{ℕ, zero, suc, ◌+◌, ◌-◌, ◌*◌, ◌^◌, max}
use Rattle.sets.specs.Counts.{count}
use Rattle.tasks.specs.Meaning.{Meaning}

-- The number of usable actions, but at least 1.
abbrev pub branching : Meaning → ℕ
branching m = max 1 (count m.usable m.actions)

-- The sum over k from 0 to K of 2 × B ^ k − 1, B the number of usable actions but at least 1.
abbrev pub ceiling : Meaning → ℕ → ℕ
ceiling m zero = 2 * branching m ^ 0 - 1
ceiling m (suc k) = (2 * branching m ^ suc k - 1) + ceiling m k
