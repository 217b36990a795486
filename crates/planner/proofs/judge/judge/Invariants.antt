use Rattle.std.proofs.Common.{◌*◌}
use Rattle.tasks.specs.Masked.{masked}
use Rattle.search.specs.Stepped.{machine_of}
use Rattle.planner.proofs.Judging.{Driven}
use Rattle.planner.proofs.judge.judge.Given as goal

abbrev pub invariant-loop : goal.invariant-loop
invariant-loop g l =
    let m = masked l.job.task in
    Driven l.job.bound (machine_of l.search) (g.M.Memory.has l.memory) m (g.E.Estimator.hopeless l.estimator m) (l.counter * 1000000)
