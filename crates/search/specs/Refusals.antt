-- The numbers of the refusals.
use Rattle.std.specs.Prelude.{ℕ}
use Rattle.search.specs.declared.refusal.Refusal.{Refusal}
use Rattle.search.specs.declared.refusal.Refusal.TheVariants.{Blank, Bound, Amount, NotNone, NotFound, Buffer}

abbrev pub number : Refusal → ℕ
number Blank = 13
number Bound = 14
number Amount = 15
number NotNone = 16
number NotFound = 17
number Buffer = 18
