-- What sets have in them.
use Rattle.std.specs.Prelude.{ℕ, Bool, true, false}
use Rattle.sets.specs.Bits.{bit}
use Rattle.sets.specs.declared.bit_sets.BitSet.{BitSet}
use Rattle.sets.specs.declared.literals.Literals.{Literals}

-- i is in the set. `number` is the number that a word is, as `Word` says it.
unfoldable pub member : {W : Type 0} → (W → ℕ) → BitSet W → ℕ → Bool
member number set i = bit (number set.bits) i

-- The sets of the three widths, whose words are numbers.
abbrev pub StageSet : Type 0
StageSet = BitSet ℕ

abbrev pub FactSet : Type 0
FactSet = BitSet ℕ

abbrev pub ActionSet : Type 0
ActionSet = BitSet ℕ

-- Stage i is in the set.
abbrev pub marked : StageSet → ℕ → Bool
marked = member (λ n. n)

-- Fact f is in the set.
abbrev pub holds : FactSet → ℕ → Bool
holds = member (λ n. n)

-- Action a is in the set.
abbrev pub among : ActionSet → ℕ → Bool
among = member (λ n. n)

-- The literal of fact f with value v is in the set.
unfoldable pub has : Literals → ℕ → Bool → Bool
has set f true = holds set.trues f
has set f false = holds set.falses f
