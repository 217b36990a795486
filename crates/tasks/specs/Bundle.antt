-- What a task means, by its ghost members.
use Rattle.tasks.specs.declared.task.Task.{Ghosts}
use Rattle.tasks.specs.Meaning.{Meaning, bundle}

abbrev pub meaning : {S : Type 0} → Ghosts S → S → Meaning
meaning g = bundle g.facts g.actions g.usable g.needs g.makes g.start g.goal
