-- A step of a part that is to be split.
use Rattle.std.specs.Prelude.{ℕ, Bool, Option}
use Rattle.sets.specs.Sets.{among}
use Rattle.filter.specs.Parts.{step_at}
use Rattle.search.specs.declared.choose.Choice.{Choice}
use Rattle.search.specs.LeftParts.{left_of, task_of}
use Rattle.search.specs.Steps.{best_below, first_half}

-- The actions that the step has left.
abbrev pub open_at : Choice → ℕ → Bool
open_at c a = among (step_at c.within.part.now.part c.step) a

-- The fact that decides how the step is split, after its distance.
abbrev pub deciding : Choice → Option (ℕ × ℕ)
deciding c = best_below (task_of c.within) (left_of c.within) c.step (task_of c.within).facts

-- Whether an action belongs to the half that is taken first.
abbrev pub goes_first : Choice → ℕ → Bool
goes_first c a = first_half (task_of c.within) (left_of c.within) c.step (deciding c) a
