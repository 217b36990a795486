-- Literals as signed numbers: which numbers are read, and what negation gives.
use Rattle.std.specs.Prelude.{◌≡◌, ◌≤◌, ℤ, Ok, Err, Result, unsigned_abs}
use Rattle.tasks.specs.declared.literal.Literal.{Literal}
use Rattle.tasks.specs.declared.refusal.Refusal.{Refusal}
use Rattle.tasks.specs.declared.refusal.Refusal.TheVariants as refusal
use Rattle.tasks.specs.Meaning.{opposite}

-- A number from 1 to 64 or from -1 to -64 is read as its literal, and any other is refused.
abbrev pub Reads : ℤ → Result Literal Refusal → Type 0
Reads number (Ok l) = l.number ≡ number
Reads number (Err e) = (e ≡ refusal.Literal) × ((1 ≤ unsigned_abs number) × (unsigned_abs number ≤ 64) → ⊥)

-- The one literal is the opposite of the other.
abbrev pub IsOpposite : Literal → Literal → Type 0
IsOpposite l r = r.number ≡ opposite l.number
