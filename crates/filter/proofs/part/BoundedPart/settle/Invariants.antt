use Rattle.tasks.specs.Bundle.{meaning}
use Rattle.filter.specs.Turns.{Progressed, burden}
use Rattle.filter.proofs.part.BoundedPart.settle.Given as goal

abbrev pub invariant-loop-i : goal.invariant-loop-i
invariant-loop-i g l = Progressed (meaning g.T.Task l.task) l.initial.self.part l.initial.left l.self.part l.left

abbrev pub decreases-loop-i : goal.decreases-loop-i
decreases-loop-i g l = burden l.self.part l.left
