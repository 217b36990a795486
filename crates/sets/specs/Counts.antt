-- The lowest member of a set of numbers, and how many it has. A set is given by its test.
use Rattle.std.specs.Prelude.{◌≡◌, ℕ, zero, suc, ◌+◌, ◌≤◌, Bool, true, false, cond, not, ◌&&◌, Some, None, Option, ◌==◌}

-- Nothing is in the set.
abbrev pub Empty : (ℕ → Bool) → Type 0
Empty g = (n : ℕ) → g n ≡ false

-- n is in the set, and nothing below it is.
pub record Lowest (g : ℕ → Bool) (n : ℕ) : Type 0 where
  pub member : g n ≡ true
  pub least : (m : ℕ) → g m ≡ true → n ≤ m

-- How many numbers below n are in the set.
unfoldable pub count : (ℕ → Bool) → ℕ → ℕ
count g zero = 0
count g (suc n) = cond (g n) 1 0 + count g n

-- The lowest member was taken out of the set g, which left h. None, where there was none.
abbrev pub Popped : (ℕ → Bool) → Option ℕ → (ℕ → Bool) → Type 0
Popped g None h = Empty g × ((m : ℕ) → h m ≡ g m)
Popped g (Some n) h = Lowest g n × ((m : ℕ) → h m ≡ (g m && not (m == n)))
