-- Tables of the reader, with the cells that a sheet gives.
use Rattle.sheet.specs.declared.tables.Tables as own
use Rattle.sheet.specs.Bodies.{over}
use Rattle.sheet.specs.Sheet.{Tables}

-- The cells of the reader's tables.
abbrev pub cells_of : own.Tables → Tables
cells_of t = record { needs = t.needs; makes = t.makes; start = t.start; goal = t.goal }

-- Tables whose first cells are those of a sheet, the others as they were.
abbrev pub laid : Tables → Tables → Tables
laid cells table = record {
  needs = over cells.needs table.needs;
  makes = over cells.makes table.makes;
  start = over cells.start table.start;
  goal = over cells.goal table.goal;
}
