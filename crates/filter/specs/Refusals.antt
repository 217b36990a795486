-- The numbers of the refusals.
use Rattle.std.specs.Prelude.{ℕ}
use Rattle.filter.specs.declared.refusal.Refusal.{Refusal}
use Rattle.filter.specs.declared.refusal.Refusal.TheVariants.{Round}

abbrev pub number : Refusal → ℕ
number Round = 8
