use Rattle.tasks.proofs.Seeing.{Read}
use Rattle.tasks.proofs.restart.gathered.Given as goal

abbrev pub invariant-loop-number : goal.invariant-loop-number
invariant-loop-number l = Read l.facts l.numbers l.number-index l.set
