use Rattle.std.proofs.Common.{◌≡◌}
use Rattle.tasks.specs.Masked.{masked}
use Rattle.exhaustive.proofs.Lengths.{Covered}
use Rattle.exhaustive.proofs.plan.shortest_plan.Given as goal

abbrev pub invariant-loop-n : goal.invariant-loop-n
invariant-loop-n g l = Covered (masked l.snapshot) l.budget l.left l.n × (l.plan ≡ l.initial.plan)
