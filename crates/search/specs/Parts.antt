-- Parts of a task, and plans, as they are stored.
use Rattle.std.specs.Prelude.{◌≡◌, ℕ, List, take}
use Rattle.tasks.specs.Meaning.{Meaning, Lawful}
use Rattle.filter.specs.declared.part.Part.{Part}
use Rattle.filter.specs.Parts.{structure}
use Rattle.filter.specs.Structures.{trimmed}
use Rattle.search.specs.declared.plan.Plan.{Plan}

-- The task is lawful, and the part has only actions and facts of it.
pub record OfTask (m : Meaning) (p : Part) : Type 0 where
  pub lawful : Lawful m
  pub trim : structure p ≡ trimmed m (structure p)

-- The actions of a plan.
abbrev pub actions_of : Plan → List ℕ
actions_of p = take p.count p.actions
