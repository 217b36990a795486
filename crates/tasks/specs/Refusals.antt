-- The numbers of the refusals.
use Rattle.std.specs.Prelude.{ℕ}
use Rattle.tasks.specs.declared.refusal.Refusal.{Refusal}
use Rattle.tasks.specs.declared.refusal.Refusal.TheVariants.{Count, Short, Cell, Action, Literal}

abbrev pub number : Refusal → ℕ
number Count = 8
number Short = 9
number Cell = 10
number Action = 11
number Literal = 12
