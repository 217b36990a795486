-- The filter so that it computes: all rules at once on all that is left, again and again, until a set is empty or nothing goes any
-- more. Between two sweeps a structure is written into lists of tests, so that nothing is computed twice. Only proofs use this.
use Rattle.std.proofs.Common.{ℕ, zero, suc, Bool, true, false, not, ◌&&◌, ◌||◌, eqb, ltb, List, [], ◌∷◌, get_or, ℤ, pos, negsuc}
use Rattle.tasks.specs.Meaning.{Meaning}
use Rattle.filter.specs.Structures.{Structure, bare}
use Rattle.estimators.specs.Ranges.{all_below}
use Rattle.search.specs.Steps.{some_below}

-- the number is the one for the value
abbrev pub tells : ℤ → Bool → Bool
tells (pos n) true = eqb n 1
tells (pos n) false = false
tells (negsuc n) true = false
tells (negsuc n) false = eqb n 0

-- the values of a function below n, as a list
abbrev pub values {ℓ} : {A : Type ℓ} → ℕ → (ℕ → A) → List A
values zero g = []
values (suc n) g = g 0 ∷ values n (λ i. g (suc i))

-- a structure as lists: the actions of each step, the facts that may be true and those that may be false at each level
pub record Lists : Type 0 where
  pub actions : List (List Bool)
  pub trues : List (List Bool)
  pub falses : List (List Bool)

abbrev pub at : List (List Bool) → ℕ → ℕ → Bool
at rows i j = get_or (get_or rows i []) j false

abbrev pub valued : Lists → ℕ → ℕ → Bool → Bool
valued l i f true = at l.trues i f
valued l i f false = at l.falses i f

abbrev pub listed : Meaning → Structure → Lists
listed m p = record {
  actions = values p.round (λ i. values m.actions (p.left i));
  trues = values (suc p.round) (λ i. values m.facts (λ f. p.possible i f true));
  falses = values (suc p.round) (λ i. values m.facts (λ f. p.possible i f false));
}

abbrev pub unlisted : ℕ → Lists → Structure
unlisted k l = record { round = k; left = at l.actions; possible = valued l }

-- the same structure, computed
abbrev pub written : Meaning → Structure → Structure
written m p = unlisted p.round (listed m p)

module _ (m : Meaning) (p : Structure) where
  abbrev pub makes_it : ℕ → ℕ → Bool → ℕ → Bool
  makes_it i f v a = p.left i a && tells (m.makes a f) v

  abbrev pub makes_if_left : ℕ → ℕ → Bool → ℕ → Bool
  makes_if_left i f v a = not (p.left i a) || tells (m.makes a f) v

  abbrev pub needs_if_left : ℕ → ℕ → Bool → ℕ → Bool
  needs_if_left i f v a = not (p.left i a) || tells (m.needs a f) v

  abbrev pub some_makes : ℕ → ℕ → Bool → Bool
  some_makes i f v = some_below m.actions (makes_it i f v)

  abbrev pub all_make : ℕ → ℕ → Bool → Bool
  all_make i f v = all_below (makes_if_left i f v) m.actions

  abbrev pub all_need : ℕ → ℕ → Bool → Bool
  all_need i f v = all_below (needs_if_left i f v) m.actions

  -- a rule removes the value after step i
  abbrev pub goes_after : ℕ → ℕ → Bool → Bool
  goes_after i f v =
      let made = some_makes i f v in
      let unmade = all_make i f (not v) in
      let first = not (p.possible i f v) && not made in
      first || unmade

  -- a rule removes the value before step i
  abbrev pub goes_before : ℕ → ℕ → Bool → Bool
  goes_before i f v =
      let undone = some_makes i f (not v) in
      let unneeded = all_need i f (not v) in
      let first = not (p.possible (suc i) f v) && not undone in
      first || unneeded

  -- what the step before level i removes of it
  abbrev pub goes_behind : ℕ → ℕ → Bool → Bool
  goes_behind zero f v = false
  goes_behind (suc i) f v = goes_after i f v

  abbrev pub value_stays : ℕ → ℕ → Bool → Bool
  value_stays i f v =
      let behind = not (goes_behind i f v) in
      let ahead = not (ltb i p.round && goes_before i f v) in
      (p.possible i f v && behind) && ahead

  -- a rule removes the action at step i for this literal
  abbrev pub bars : ℕ → ℕ → ℕ → Bool → Bool
  bars i a f v =
      ((tells (m.needs a f) v && not (p.possible i f v)) || (tells (m.makes a f) v && not (p.possible (suc i) f v)))
      || ((not (p.possible i f v) && not (p.possible (suc i) f (not v))) && not (tells (m.makes a f) v))

  abbrev pub bars_either : ℕ → ℕ → ℕ → Bool
  bars_either i a f = bars i a f true || bars i a f false

  abbrev pub barred : ℕ → ℕ → Bool
  barred i a = some_below m.facts (bars_either i a)

  abbrev pub action_stays : ℕ → ℕ → Bool
  action_stays i a = let free = not (barred i a) in p.left i a && free

  -- every rule once
  abbrev pub swept : Structure
  swept = record { round = p.round; left = action_stays; possible = value_stays }

  -- no rule removes anything
  abbrev pub action_firm : ℕ → ℕ → Bool
  action_firm i a = not (p.left i a) || action_stays i a

  abbrev pub value_firm : ℕ → ℕ → Bool → Bool
  value_firm i f v = not (p.possible i f v) || value_stays i f v

  abbrev pub step_firm : ℕ → Bool
  step_firm i = all_below (action_firm i) m.actions

  abbrev pub fact_firm : ℕ → ℕ → Bool
  fact_firm i f = value_firm i f true && value_firm i f false

  abbrev pub level_firm : ℕ → Bool
  level_firm i = all_below (fact_firm i) m.facts

  abbrev pub steps_firm : Bool
  steps_firm = all_below step_firm p.round

  abbrev pub levels_firm : Bool
  levels_firm = all_below level_firm (suc p.round)

  abbrev pub firm : Bool
  firm = let levels = levels_firm in steps_firm && levels

  -- an action is left at each step, and a value of each fact at each level
  abbrev pub step_full : ℕ → Bool
  step_full i = some_below m.actions (p.left i)

  abbrev pub fact_full : ℕ → ℕ → Bool
  fact_full i f = p.possible i f true || p.possible i f false

  abbrev pub level_full : ℕ → Bool
  level_full i = all_below (fact_full i) m.facts

  abbrev pub steps_full : Bool
  steps_full = all_below step_full p.round

  abbrev pub levels_full : Bool
  levels_full = all_below level_full (suc p.round)

  abbrev pub full : Bool
  full = let levels = levels_full in steps_full && levels

-- what the filter makes of a structure, and whether the sweeps came to an end
pub record Outcome : Type 0 where
  pub sure : Bool
  pub stands : Bool
  pub result : Structure

abbrev pub pick : Bool → Bool → Structure → Outcome → Outcome
pick false b p later = record { sure = true; stands = false; result = bare p.round }
pick true true p later = record { sure = true; stands = true; result = p }
pick true false p later = later

-- n sweeps at most
abbrev pub sweeps : Meaning → ℕ → Structure → Outcome
sweeps m zero p = record { sure = false; stands = false; result = p }
sweeps m (suc n) p =
    let later = sweeps m n (written m (swept m p)) in
    let done = firm m p in
    pick (full m p) done p later

abbrev pub outcome : Meaning → Structure → Outcome
outcome m p = sweeps m 200 (written m p)
