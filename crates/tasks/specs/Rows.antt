-- The numbers 1, 0 and -1 of a task as sets of literals.
use Rattle.std.specs.Prelude.{◌≡◌, ℕ, ◌<◌, Bool, true, false, cond, ◌&&◌, ℤ, pos, negsuc, nat_lt}
use Rattle.sets.specs.declared.literals.Literals.{Literals}
use Rattle.sets.specs.Bits.{bit}
use Rattle.sets.specs.Sets.{has}
use Rattle.sets.specs.Signs.{says}
use Rattle.tasks.specs.Meaning.{value}

-- The set has exactly the literals that the numbers say.
abbrev pub Names : (ℕ → ℤ) → Literals → Type 0
Names numbers set = (f : ℕ) (v : Bool) → has set f v ≡ says (numbers f) v

-- The set has exactly the literals that the numbers of the facts below the limit say.
abbrev pub NamesBelow : ℕ → (ℕ → ℤ) → Literals → Type 0
NamesBelow facts numbers set = (f : ℕ) (v : Bool) → has set f v ≡ (nat_lt f facts && says (numbers f) v)

-- Each answer for a fact below the limit is the fact's number.
abbrev pub Answers : (ℕ → ℤ → Type 0) → ℕ → (ℕ → ℤ) → Type 0
Answers answer facts numbers = (f : ℕ) (z : ℤ) → f < facts → answer f z → z ≡ numbers f

-- The number that a set of literals has for a fact.
abbrev pub cell : Literals → ℕ → ℤ
cell set f = cond (has set f true) (pos 1) (cond (has set f false) (negsuc 0) (pos 0))

-- Only facts below the limit are in the set.
abbrev pub Under : ℕ → Literals → Type 0
Under facts set = (f : ℕ) (v : Bool) → has set f v ≡ true → f < facts

-- No fact is in the set with both values.
abbrev pub Single : Literals → Type 0
Single set = (f : ℕ) → has set f true ≡ true → has set f false ≡ false

-- The numbers that a state has for the facts below the limit; 0 past them.
abbrev pub starts : ℕ → ℕ → ℕ → ℤ
starts facts state f = cond (nat_lt f facts) (value (bit state f)) (pos 0)
