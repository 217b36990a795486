use Rattle.std.proofs.Common.{min}
use Rattle.tasks.specs.Tables.{Signs}
use Rattle.tasks.proofs.masks.tables.are_signs.Given as goal

abbrev pub invariant-loop-i : goal.invariant-loop-i
invariant-loop-i l = Signs l.least (min l.i l.count) l.cells
