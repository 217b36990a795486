-- What the advisers of a search say: what the memory recalls, and what the estimator says of a task.
use Rattle.std.specs.Prelude.{ℕ, Bool}
use Rattle.estimators.specs.declared.estimator.Estimator as estimator
use Rattle.memories.specs.Pairs.{recalls}
use Rattle.memories.specs.declared.memory.Memory as memory
use Rattle.tasks.specs.Meaning.{Meaning}
use Rattle.search.specs.declared.advisers.Advisers.{Advisers}

module _ {M E : Type 0} where
  abbrev pub recall_of : memory.Ghosts M → Advisers M E → ℕ → ℕ → Bool
  recall_of g a = recalls (g.has a.memory.now)

  abbrev pub hopeless_of : estimator.Ghosts E → Advisers M E → Meaning → ℕ → ℕ → Bool
  hopeless_of g a m = g.hopeless a.estimator.now m
