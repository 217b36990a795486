use Rattle.std.proofs.Common.{◌≡◌, ℕ, ◌&&◌, ltb}
use Rattle.sets.specs.Sets.{among}
use Rattle.tasks.proofs.task.Task.usable_actions.Given as goal

abbrev pub invariant-loop-a : goal.invariant-loop-a
invariant-loop-a g l = (a : ℕ) → among l.usable a ≡ (ltb a l.a && g.Self.Task.usable l.self a)
