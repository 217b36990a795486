-- A task as bit masks.
use Rattle.std.specs.Prelude.{◌≡◌, ℕ, ◌<◌, Bool, true, false, List, slice_index_or}
use Rattle.sets.specs.Sets.{ActionSet, has, among}
use Rattle.sets.specs.declared.literals.Literals.{Literals}
use Rattle.tasks.specs.declared.row.Row.{Row}

-- No literals.
abbrev pub nothing : Literals
nothing = record { trues = record { bits = 0 }; falses = record { bits = 0 } }

-- An action that needs and makes nothing.
abbrev pub idle : Row
idle = record { needs = nothing; makes = nothing }

-- The row of an action; past the table's end an idle one.
unfoldable pub row_at : List Row → ℕ → Row
row_at rows a = slice_index_or rows a idle

-- The set of actions that a table has for a fact; past its end an empty one.
unfoldable pub set_at : List ActionSet → ℕ → ActionSet
set_at sets f = slice_index_or sets f (record { bits = 0 })

-- The literals that each action needs, and those that it makes.
abbrev pub needs_at : List Row → ℕ → Literals
needs_at rows a = (row_at rows a).needs

abbrev pub makes_at : List Row → ℕ → Literals
makes_at rows a = (row_at rows a).makes

-- Only actions below the limit have a literal.
abbrev pub Own : ℕ → (ℕ → Literals) → Type 0
Own actions sets = (a f : ℕ) (v : Bool) → has (sets a) f v ≡ true → a < actions

-- For each fact the actions that make it false.
abbrev pub Removes : List Row → List ActionSet → Type 0
Removes rows sets = (f a : ℕ) → among (set_at sets f) a ≡ has (makes_at rows a) f false
