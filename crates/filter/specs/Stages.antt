-- What holds but at a set of stages.
use Rattle.std.specs.Prelude.{◌≡◌, ℕ, ◌<◌, false}
use Rattle.tasks.specs.Meaning.{Meaning}
use Rattle.sets.specs.Sets.{StageSet, marked}
use Rattle.filter.specs.Structures.{Structure}
use Rattle.filter.specs.Rules.{stage}
use Rattle.filter.specs.Filtering.{ConsistentStage}

-- Each stage of the structure that is not in the set is consistent.
abbrev pub ConsistentButAt : StageSet → Meaning → Structure → Type 0
ConsistentButAt set m p = (i : ℕ) → i < p.round → marked set i ≡ false → ConsistentStage m (stage p i)
