use Rattle.std.proofs.Common.{◌≡◌, ◌+◌, ◌-◌, [], drop}
use Rattle.sheet.specs.Readers.{to_come}
use Rattle.sheet.specs.Dues.{names, seconds}
use Rattle.sheet.proofs.names.names.Given as goal

abbrev pub invariant-loop-i : goal.invariant-loop-i
invariant-loop-i l =
    (to_come l.lines ≡ drop l.i (to_come l.initial.lines))
    × (names l.head (l.first + l.i) (l.count - l.i) (seconds l.i (to_come l.initial.lines)) (to_come l.lines) ≡ names l.head l.first l.count [] (to_come l.initial.lines))
