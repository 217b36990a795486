-- A task without some of its actions.
use Rattle.std.specs.Prelude.{ℕ, ◌<◌, Bool, false, not, ◌&&◌, ◌||◌, List, [], ◌∷◌, length, ◌==◌, slice_index}
use Rattle.tasks.specs.Meaning.{Meaning}

-- The number is in the list.
abbrev pub listed : List ℕ → ℕ → Bool
listed [] x = false
listed (y ∷ ys) x = y == x || listed ys x

-- Each number in the list is below the limit.
abbrev pub AllBelow : ℕ → List ℕ → Type 0
AllBelow limit xs = (k : ℕ) → k < length xs → slice_index xs k < limit

-- The actions of the test are not usable; all else is as below.
abbrev pub banned : (ℕ → Bool) → Meaning → Meaning
banned out m = record {
  facts = m.facts;
  actions = m.actions;
  usable = λ a. m.usable a && not (out a);
  needs = m.needs;
  makes = m.makes;
  start = m.start;
  goal = m.goal;
}
