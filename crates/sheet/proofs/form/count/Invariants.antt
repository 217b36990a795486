use Rattle.std.proofs.Common.{◌≡◌, ◌+◌, length}
use Rattle.sheet.specs.Readers.{left}
use Rattle.sheet.specs.Forms.{spaced}
use Rattle.sheet.proofs.form.count.Given as goal

abbrev pub invariant-loop-word : goal.invariant-loop-word
invariant-loop-word l =
    (goal.iterator-loop-word).can_next l.word-iterator
    × (goal.iterator-loop-word).is_finite l.word-iterator
    × (l.count + length (left l.word-iterator) ≡ length (left l.fn.words))
    × (spaced (left l.word-iterator) ≡ spaced (left l.fn.words))
