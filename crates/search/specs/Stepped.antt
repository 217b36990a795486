-- A search as a machine, and what its steps promise, by the ghost members of a memory and an estimator.
use Rattle.std.specs.Prelude.{◌≡◌, ℕ, ◌≤◌}
use Rattle.estimators.specs.declared.estimator.Estimator as estimator
use Rattle.memories.specs.Pairs.{recalls}
use Rattle.memories.specs.declared.memory.Memory as memory
use Rattle.tasks.specs.Meaning.{Meaning}
use Rattle.search.specs.declared.record.Search.{Search}
use Rattle.search.specs.Machines.{Machine, Made}
use Rattle.search.specs.Machines.Stage.{unfinished}
use Rattle.search.specs.Steps.{Step}
use Rattle.search.specs.Calls.{Keeps, Steps}
use Rattle.search.specs.Entries.{entries_of}
use Rattle.search.specs.Stored.{stage_of}

-- The machine that a search stands for.
abbrev pub machine_of : Search → Machine
machine_of s = record { stage = stage_of s.stage; bound = s.rounds.bound; round = s.rounds.round; entries = entries_of s.stack }

module _ {X Y : Type 0} (M : memory.Ghosts X) (E : estimator.Ghosts Y) (m : Meaning) (e : Y) where
  -- One step was made, and its pairs were kept.
  pub record Stepped (S : Machine) (x : X) (S' : Machine) (x' : X) : Type 0 where
    pub made : Made
    pub step : Step m (recalls (M.has x)) (E.hopeless e m) S made
    pub machine : S' ≡ made.machine
    pub kept : Keeps X M.keeps made.keeps x x'

  -- So many steps were made, fewer than asked only if a verdict fell.
  pub record Gone (amount : ℕ) (S : Machine) (x : X) (S' : Machine) (x' : X) (made : ℕ) : Type 0 where
    pub steps : Steps X (λ y. recalls (M.has y)) M.keeps m (E.hopeless e m) made S x S' x'
    pub few : made ≤ amount
    pub all : S'.stage ≡ unfinished → made ≡ amount
