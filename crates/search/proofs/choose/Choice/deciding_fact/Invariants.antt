use Rattle.search.specs.LeftParts.{left_of, task_of}
use Rattle.search.proofs.Choosing.{Weighed}
use Rattle.search.proofs.choose.Choice.deciding_fact.Given as goal

abbrev pub invariant-loop-fact : goal.invariant-loop-fact
invariant-loop-fact l = Weighed (task_of l.self.within) (left_of l.self.within) l.self.step l.fact-iterator.rest l.best
