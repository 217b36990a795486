use Rattle.std.proofs.Common.{◌≡◌, ◌++◌, map, take, drop}
use Rattle.sheet.specs.Bodies.{low}
use Rattle.sheet.proofs.bodies.lower.Given as goal

abbrev pub invariant-loop-cell : goal.invariant-loop-cell
invariant-loop-cell l = l.cells ≡ map low (take l.cell-index l.initial.cells) ++ drop l.cell-index l.initial.cells
