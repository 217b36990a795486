-- Rows that each hold one pair, and how a list of them keeps a new one.
use Rattle.std.specs.Prelude.{◌≡◌, ℕ, ◌-◌, ◌≤◌, max, Bool, false, cond, ◌&&◌, ◌||◌, List, [], ◌∷◌, length, ◌==◌, ◌≢◌, nat_lt, AllPairs}
use Rattle.memories.specs.Pairs.{Pairs}
use Rattle.memories.specs.declared.row.Row.{Row}

-- The row of a state and a left.
abbrev pub row : ℕ → ℕ → Row
row s n = record { state = s; left = n }

-- The row holds the pair.
abbrev pub holds : Row → Pairs
holds r s n = r.state == s && r.left == n

-- The pairs that the rows hold.
unfoldable pub among : List Row → Pairs
among [] s n = false
among (r ∷ rs) s n = let later = among rs s n in holds r s n || later

-- The rows after a pair was kept. Where the state stands, the left in that row is raised, if it was smaller; else a new row comes at the end, if there is room for one more.
unfoldable pub keep_row : ℕ → List Row → ℕ → ℕ → List Row
keep_row room [] s n = cond (nat_lt 0 room) (row s n ∷ []) []
keep_row room (r ∷ rs) s n = let later = keep_row (room - 1) rs s n in cond (r.state == s) (row s (max r.left n) ∷ rs) (r ∷ later)

-- The row is of the state.
abbrev pub is_of : ℕ → Row → Bool
is_of s r = r.state == s

-- No state stands in two rows.
abbrev pub StatesDiffer : List Row → Type 0
StatesDiffer rows = AllPairs (λ a b. a.state ≢ b.state) rows

-- What the rows of each list memory are: at most 256, and no state in two.
pub record IsListed (rows : List Row) : Type 0 where
  pub few : length rows ≤ 256
  pub apart : StatesDiffer rows

-- A keep made the rows of a list memory into these.
pub record IsKept (old : List Row) (s n : ℕ) (new : List Row) : Type 0 where
  pub value : new ≡ keep_row 256 old s n
  pub listed : IsListed new
