-- A task that starts from what was seen. A literal is plus or minus the fact's number and one.
use Rattle.std.specs.Prelude.{◌≡◌, ℕ, ◌+◌, ◌<◌, ◌≤◌, Bool, false, cond, ◌&&◌, ◌||◌, List, [], ◌∷◌, length, ℤ, pos, ◌==◌, ◌≢◌, nat_lt, slice_index_or, unsigned_abs}
use Rattle.sets.specs.Sets.{has}
use Rattle.sets.specs.Signs.{says}
use Rattle.sets.specs.declared.literals.Literals.{Literals}
use Rattle.tasks.specs.Meaning.{Meaning, value}

-- No literal is 0 or beyond the facts.
abbrev pub Within : ℕ → List ℤ → Type 0
Within facts ls = (k : ℕ) → k < length ls → (1 ≤ unsigned_abs (slice_index_or ls k (pos 0))) × (unsigned_abs (slice_index_or ls k (pos 0)) ≤ facts)

-- No fact is listed twice.
abbrev pub Apart : List ℤ → Type 0
Apart ls = (k : ℕ) → k < length ls → (j : ℕ) → j < k → unsigned_abs (slice_index_or ls j (pos 0)) ≢ unsigned_abs (slice_index_or ls k (pos 0))

-- The list says that fact f has the value v.
abbrev pub seen : List ℤ → ℕ → Bool → Bool
seen [] f v = false
seen (l ∷ ls) f v = (unsigned_abs l == f + 1 && says l v) || seen ls f v

-- A literal is one of the facts', and its fact is not in the set yet, with either sign.
abbrev pub Fresh : ℕ → Literals → ℤ → Type 0
Fresh facts set l = (1 ≤ unsigned_abs l) × (unsigned_abs l ≤ facts) × ((f : ℕ) (v : Bool) → unsigned_abs l ≡ f + 1 → has set f v ≡ false)

-- The set has one literal more.
abbrev pub Joined : Literals → ℤ → Literals → Type 0
Joined set l more = (f : ℕ) (v : Bool) → has more f v ≡ (has set f v || (unsigned_abs l == f + 1 && says l v))

-- The facts of the test start true, the others false, and all else is as below.
abbrev pub restarted : (ℕ → Bool) → Meaning → Meaning
restarted b m = record {
  facts = m.facts;
  actions = m.actions;
  usable = m.usable;
  needs = m.needs;
  makes = m.makes;
  start = λ f. cond (nat_lt f m.facts) (value (b f)) (pos 0);
  goal = m.goal;
}
