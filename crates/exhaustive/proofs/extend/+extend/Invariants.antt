use Rattle.std.proofs.Common.{◌≡◌, length}
use Rattle.tasks.specs.Masked.{masked}
use Rattle.exhaustive.proofs.Passing.{Passed}
use Rattle.exhaustive.proofs.extend.+extend.Given as goal

abbrev pub decreases-extend : goal.decreases-extend
decreases-extend l = length l.plan.now

abbrev pub invariant-loop-a : goal.invariant-loop-a
invariant-loop-a l =
    Passed (masked l.task) l.state (length l.initial.rest) l.initial.budget l.budget l.a × (l.rest ≡ l.initial.rest) × (l.first ≡ l.initial.first)
