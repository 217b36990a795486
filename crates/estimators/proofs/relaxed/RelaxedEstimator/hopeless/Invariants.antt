use Rattle.std.proofs.Common.{◌≡◌, ℕ, Bool}
use Rattle.sets.specs.Sets.{has}
use Rattle.tasks.specs.Bundle.{meaning}
use Rattle.estimators.specs.Layers.{layer_at}
use Rattle.estimators.proofs.relaxed.RelaxedEstimator.hopeless.Given as goal

abbrev pub invariant-loop : goal.invariant-loop
invariant-loop g l = (f : ℕ) (v : Bool) → has l.layer f v ≡ layer_at (meaning g.T.Task l.task) l.state l.counter f v
