use Rattle.tasks.specs.Bundle.{meaning}
use Rattle.filter.specs.Kernel.{Looked}
use Rattle.filter.proofs.stage.StageMasks.look_over.Given as goal

abbrev pub invariant-loop-a : goal.invariant-loop-a
invariant-loop-a g l = Looked (meaning g.T.Task l.task) l.self l.required l.a-iterator.rest l.seen
