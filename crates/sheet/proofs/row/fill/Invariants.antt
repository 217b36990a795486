use Rattle.std.proofs.Common.{◌≡◌}
use Rattle.sheet.specs.Readers.{left}
use Rattle.sheet.specs.Rows.{fill}
use Rattle.sheet.proofs.row.fill.Given as goal

abbrev pub invariant-loop-word : goal.invariant-loop-word
invariant-loop-word l =
    (goal.iterator-loop-word).can_next l.word-iterator
    × (goal.iterator-loop-word).is_finite l.word-iterator
    × (fill l.signs l.row (left l.word-iterator) ≡ fill l.signs l.initial.row (left l.fn.words))
