-- What a memory means: a set of pairs (state, left), where left is one byte.
use Rattle.std.specs.Prelude.{◌≡◌, ℕ, zero, suc, Bool, true, false, ◌&&◌, ◌||◌, ◌⊎◌, nat_le}

-- A set of pairs tells of each state and left whether the pair is in it.
abbrev pub Pairs : Type 0
Pairs = ℕ → ℕ → Bool

-- The set has a pair of the state with a left of at least n that is below the top.
unfoldable pub recalls_below : ℕ → Pairs → ℕ → ℕ → Bool
recalls_below zero P s n = false
recalls_below (suc m) P s n = let lower = recalls_below m P s n in (nat_le n m && P s m) || lower

-- The set has a pair of the state with a left of at least n.
abbrev pub recalls : Pairs → ℕ → ℕ → Bool
recalls P s n = recalls_below 256 P s n

-- After a pair was kept, each pair is an old one or the new one.
abbrev pub Kept : Pairs → ℕ → ℕ → Pairs → Type 0
Kept P state left Q = (s n : ℕ) → Q s n ≡ true → (P s n ≡ true) ⊎ ((s ≡ state) × (n ≡ left))

-- There is no pair.
abbrev pub Emptied : Pairs → Type 0
Emptied Q = (s n : ℕ) → Q s n ≡ false
