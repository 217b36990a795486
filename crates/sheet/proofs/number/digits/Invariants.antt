use Rattle.std.proofs.Common.{◌≡◌, drop}
use Rattle.sheet.specs.Number.{upto}
use Rattle.sheet.proofs.number.digits.Given as goal

abbrev pub invariant-loop-digit : goal.invariant-loop-digit
invariant-loop-digit l = upto l.high l.value (drop l.digit-index l.word) ≡ upto l.high 0 l.word
