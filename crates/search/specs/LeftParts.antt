-- A part that the filter has left: the task that it is a part of, and what is left in it.
use Rattle.tasks.specs.Masked.{masked}
use Rattle.tasks.specs.Meaning.{Meaning}
use Rattle.filter.specs.Parts.{structure}
use Rattle.filter.specs.Structures.{Structure}
use Rattle.search.specs.declared.parts.LeftPart.{LeftPart}

abbrev pub task_of : LeftPart → Meaning
task_of p = masked p.snapshot.now

abbrev pub left_of : LeftPart → Structure
left_of p = structure p.part.now.part
