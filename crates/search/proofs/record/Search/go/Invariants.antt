use Rattle.memories.specs.Pairs.{recalls}
use Rattle.tasks.specs.Masked.{masked}
use Rattle.search.specs.Calls.{Steps}
use Rattle.search.specs.Stepped.{machine_of}
use Rattle.search.proofs.record.Search.go.Given as goal

abbrev pub invariant-loop-made : goal.invariant-loop-made
invariant-loop-made g l =
    Steps g.row.M.Denot (λ x. recalls (g.M.Memory.has x)) g.M.Memory.keeps (masked l.snapshot) (g.E.Estimator.hopeless l.estimator (masked l.snapshot)) l.made (machine_of l.initial.self) l.initial.memory (machine_of l.self) l.memory
