-- What masks mean as a task.
use Rattle.sets.specs.Sets.{among}
use Rattle.tasks.specs.declared.masks.Masks.{Masks}
use Rattle.tasks.specs.Meaning.{Meaning}
use Rattle.tasks.specs.Masks.{needs_at, makes_at}
use Rattle.tasks.specs.Rows.{cell, starts}

abbrev pub masked : Masks → Meaning
masked t = record {
  facts = t.facts;
  actions = t.actions;
  usable = among t.usable;
  needs = λ a. cell (needs_at t.rows a);
  makes = λ a. cell (makes_at t.rows a);
  start = starts t.facts t.start;
  goal = cell t.goals;
}
