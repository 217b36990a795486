-- What a reader of words or of lines has still to give.
use Rattle.std.specs.Prelude.{ℕ, List, [], Some, None, Option}
use Rattle.std.specs.Borrow.{Bor}
use Rattle.sheet.specs.declared.lines.Lines.{Lines}
use Rattle.sheet.specs.declared.words.Words.{Words}
use Rattle.sheet.specs.Lines.{lines}
use Rattle.sheet.specs.Words.{words}

-- The words of what is left of a line: none after its last word.
abbrev pub left_of : Option (Bor (List ℕ)) → List (List ℕ)
left_of None = []
left_of (Some line) = words line.now

-- The words that a reader has still to give.
abbrev pub left : Words → List (List ℕ)
left w = left_of w.rest

-- The lines that a reader has still to give.
abbrev pub to_come : Lines → List (List ℕ)
to_come l = lines l.rest.now
