-- The rows that stand in a list memory.
use Rattle.std.specs.Prelude.{◌≡◌, ◌≤◌, List, length}
use Rattle.memories.specs.declared.list.ListMemory.TheInside.{Inside}
use Rattle.memories.specs.declared.list.ListMemory.TheView.{view, invariant}
use Rattle.memories.specs.declared.row.Row.{Row}

-- There is a list memory with these rows: with heads and links that lead through its chains, and room for each row.
pub record IsRemembered (rows : List Row) : Type 0 where
  pub memory : Inside
  pub chained : invariant memory
  pub few : length rows ≤ 256
  pub shown : view memory ≡ rows
