-- Tests and numbers over the range from 0 up to, not including, n.
use Rattle.std.specs.Prelude.{ℕ, zero, suc, max, Bool, true, false, ◌&&◌, ◌||◌}

-- The test holds somewhere in the range.
unfoldable pub some_below : (ℕ → Bool) → ℕ → Bool
some_below g zero = false
some_below g (suc n) = let lower = some_below g n in g n || lower

-- The test holds in the whole range.
unfoldable pub all_below : (ℕ → Bool) → ℕ → Bool
all_below g zero = true
all_below g (suc n) = let lower = all_below g n in g n && lower

-- The largest number of the range, or 0.
unfoldable pub most_below : (ℕ → ℕ) → ℕ → ℕ
most_below g zero = 0
most_below g (suc n) = max (g n) (most_below g n)
