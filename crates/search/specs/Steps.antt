-- One step of the search, as a function of what the filter left of the newest part and of the answers of memory and estimator.
use Rattle.std.specs.Prelude.{◌≡◌, ℕ, zero, suc, ◌+◌, ◌-◌, Bool, true, false, cond, not, ◌&&◌, ◌||◌, List, [], ◌∷◌, ◌++◌, Some, None, Option, ◌==◌, nat_le, nat_lt}
use Rattle.sets.specs.Counts.{count}
use Rattle.sets.specs.Signs.{says}
use Rattle.tasks.specs.Meaning.{Meaning}
use Rattle.filter.specs.Structures.{Structure}
use Rattle.filter.specs.Filtering.{Filtered}
use Rattle.filter.specs.Plans.{state_of}
use Rattle.search.specs.Machines.{Entry, Machine, Made}
use Rattle.search.specs.Machines.Entry.{part, pair}
use Rattle.search.specs.Machines.Stage.{unfinished, found, none}

-- Putting up a round

-- The first part of round k: all usable actions at each step and all values, less those against the start at level 0 and
-- those against a goal at level k.
unfoldable pub first_part : Meaning → ℕ → Structure
first_part m k = record {
  round = k;
  left = λ i a. (nat_lt i k && nat_lt a m.actions) && m.usable a;
  possible = λ i f v. (nat_le i k && nat_lt f m.facts) && (not (i == 0 && says (m.start f) (not v)) && not (i == k && says (m.goal f) (not v)));
}

unfoldable pub put_up : Meaning → ℕ → ℕ → Machine
put_up m bound k = record { stage = unfinished; bound = bound; round = k; entries = part (first_part m k) None ∷ [] }

-- Dropping a part

-- Where nothing is open any more: none stands after the last round, else the next round is put up.
unfoldable pub over : Meaning → ℕ → ℕ → Bool → Machine
over m bound k true = record { stage = none; bound = bound; round = k; entries = [] }
over m bound k false = put_up m bound (k + 1)

-- The pairs on top are kept, innermost first, until a part is on top or nothing is open.
unfoldable pub settle : Meaning → ℕ → ℕ → List (ℕ × ℕ) → List Entry → Made
settle m bound k kept [] = record { machine = over m bound k (k == bound); keeps = kept }
settle m bound k kept (part p from ∷ rest) = record { machine = record { stage = unfinished; bound = bound; round = k; entries = part p from ∷ rest }; keeps = kept }
settle m bound k kept (pair s n ∷ rest) = settle m bound k (kept ++ (s, n) ∷ []) rest

-- Looking for the first step with a choice

-- The lowest number from i on, n numbers long, that passes; else the first past them.
unfoldable pub lowest_from : ℕ → ℕ → (ℕ → Bool) → ℕ
lowest_from zero i g = i
lowest_from (suc n) i g = let later = lowest_from n (suc i) g in cond (g i) i later

-- The lowest number below n that passes, else n.
unfoldable pub lowest : ℕ → (ℕ → Bool) → ℕ
lowest n g = lowest_from n 0 g

-- Some number below n passes.
unfoldable pub some_below : ℕ → (ℕ → Bool) → Bool
some_below zero g = false
some_below (suc n) g = let lower = some_below n g in g n || lower

-- How far apart two numbers are; none where either is 0.
abbrev pub apart : ℕ → ℕ → Option ℕ
apart d r = cond (nat_lt 0 d && nat_lt 0 r) (Some ((d - r) + (r - d))) None

module _ (m : Meaning) (q : Structure) where
  -- Two actions or more are left at step i.
  unfoldable pub wide : ℕ → Bool
  wide i = nat_lt 1 (count (q.left i) m.actions)

  -- The actions of n steps from step i on, each the lowest left.
  unfoldable pub plan_from : ℕ → ℕ → List ℕ
  plan_from zero i = []
  plan_from (suc n) i = lowest m.actions (q.left i) ∷ plan_from n (suc i)

  -- Splitting step i

  -- Action a is left at step i and makes fact f false.
  unfoldable pub falsifies : ℕ → ℕ → ℕ → Bool
  falsifies i f a = q.left i a && says (m.makes a f) false

  -- How far apart the actions that make f false and the others are in number; none where f does not qualify: both values of
  -- f have to be left after the step, and some action has to make it false, and some other not.
  unfoldable pub distance : ℕ → ℕ → Option ℕ
  distance i f =
      let d = count (falsifies i f) m.actions in
      let r = count (λ a. q.left i a && not (says (m.makes a f) false)) m.actions in
      let apart : Option ℕ = Some ((d - r) + (r - d)) in
      cond ((q.possible (i + 1) f true && q.possible (i + 1) f false) && (nat_lt 0 d && nat_lt 0 r)) apart None

  -- The fact that decides so far, after its distance: a later fact only by a smaller one.
  unfoldable pub better : ℕ → Option ℕ → Option (ℕ × ℕ) → Option (ℕ × ℕ)
  better f None best = best
  better f (Some d) None = Some (d, f)
  better f (Some d) (Some b) = cond (nat_lt d b.0) (Some (d, f)) (Some b)

  unfoldable pub best_below : ℕ → ℕ → Option (ℕ × ℕ)
  best_below i zero = None
  best_below i (suc f) = better f (distance i f) (best_below i f)

  -- The half that is taken first: the actions that make the deciding fact false, or the lowest action alone.
  unfoldable pub first_half : ℕ → Option (ℕ × ℕ) → ℕ → Bool
  first_half i None a = a == lowest m.actions (q.left i)
  first_half i (Some b) a = falsifies i b.1 a

  -- The structure with only the actions of d at step i.
  unfoldable pub half : ℕ → (ℕ → Bool) → Structure
  half i d = record { round = q.round; left = λ j a. cond (j == i) (q.left j a && d a) (q.left j a); possible = q.possible }

-- The parent was split at an earlier step than i, or there is none.
unfoldable pub earlier : Option ℕ → ℕ → Bool
earlier None i = true
earlier (Some j) i = nat_lt j i

module _ (m : Meaning) (recall hopeless : ℕ → ℕ → Bool) (bound k : ℕ) (from : Option ℕ) (q : Structure) (rest : List Entry) where
  -- Of the state at level j, with k minus j actions left, the memory or the estimator says that it is hopeless.
  unfoldable pub told : ℕ → Bool
  told j = let h = hopeless (state_of m q j) (k - j) in recall (state_of m q j) (k - j) || h

  -- The entries below the halves of a part that is split at step i.
  unfoldable pub below_halves : ℕ → List Entry
  below_halves i = cond (earlier from i) (pair (state_of m q i) (k - i) ∷ rest) rest

  unfoldable pub split : ℕ → (ℕ → Bool) → Made
  split i d = record {
    machine = record { stage = unfinished; bound = bound; round = k; entries = part (half m q i d) (Some i) ∷ part (half m q i (λ a. not (d a))) (Some i) ∷ below_halves i };
    keeps = [];
  }

  unfoldable pub asked : ℕ → Bool → Made
  asked i true = settle m bound k [] rest
  asked i false = split i (first_half m q i (best_below m q i m.facts))

  unfoldable pub looked : Bool → ℕ → Made
  looked true i = record { machine = record { stage = found (plan_from m q k 0); bound = bound; round = k; entries = rest }; keeps = [] }
  looked false i = asked i (some_below (i + 1) told)

  -- What becomes of the part of which the filter left q: it is wiped and dropped; or every step has one action, and these are
  -- the plan; or a level up to the first step with a choice is hopeless, and it is dropped; or that step is split.
  unfoldable pub next : Bool → Made
  next false = settle m bound k [] rest
  next true = let i = lowest k (wide m q) in looked (i == k) i

-- What is told of the levels of q, whatever the bound, the parent and the entries below.
abbrev pub told_of : Meaning → (ℕ → ℕ → Bool) → (ℕ → ℕ → Bool) → Structure → ℕ → Bool
told_of m recall hopeless q = told m recall hopeless 0 q.round None q []

-- One step on an unfinished machine: the newest part is filtered, and `made` is what becomes of it.
pub record Step (m : Meaning) (recall hopeless : ℕ → ℕ → Bool) (S : Machine) (made : Made) : Type 0 where
  pub going : S.stage ≡ unfinished
  pub top : Structure
  pub from : Option ℕ
  pub rest : List Entry
  pub entries : S.entries ≡ part top from ∷ rest
  pub stands : Bool
  pub result : Structure
  pub filtered : Filtered m top stands result
  pub does : made ≡ next m recall hopeless S.bound S.round from result rest stands
