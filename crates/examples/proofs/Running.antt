-- Every run of steps is the one that computes: step by step, by the filter's one result and the list memory's rows. And there is one.
use Rattle.std.proofs.Common.{◌≡◌, ℕ, zero, suc, ◌<◌, Bool, true, false, List, [], ◌∷◌, sym, refl, ap, ◌∙◌, subst, ap₂, subst₂, inl, inr, add-one, arith}
use Rattle.std.proofs.lemmas.Bool.{both_ways, and_parts, cases_eq, cases_lt}
use Rattle.tasks.specs.Meaning.{Meaning}
use Rattle.filter.specs.Structures.{Structure}
use Rattle.memories.specs.declared.list.ListMemory.{ListMemory}
use Rattle.memories.specs.declared.row.Row.{Row}
use Rattle.memories.specs.Rows.{IsListed, keep_row}
use Rattle.memories.proofs.Finding.{listed-keep_row}
use Rattle.memories.proofs.Chaining.{remembered}
use Rattle.estimators.specs.GoalCounts.{goal_count}
use Rattle.search.specs.Machines.{Entry, Stage, Machine, Made}
use Rattle.search.specs.Machines.Entry.{part, pair}
use Rattle.search.specs.Machines.Stage.{blank, unfinished, found, none}
use Rattle.search.specs.Steps.{Step, next, put_up}
use Rattle.search.specs.Calls.{Keeps, Steps, Advanced}
use Rattle.search.specs.Calls.Keeps.{no_pair, one_pair}
use Rattle.search.specs.Calls.Steps.{no_step, one_more}
use Rattle.examples.specs.Ends.{recalled, kept, Ends}
use Rattle.examples.proofs.Sweeps.{outcome}
use Rattle.examples.proofs.Filters.{filter_is, computed}
use Rattle.examples.proofs.Computing.{recall_rows, keep_rows, Running, from, with_entries, in_stage, step, steps, run}

-- the rows after pairs were kept
kept_are : {ks : List (ℕ × ℕ)} {x y : ListMemory} → Keeps ListMemory kept ks x y → y ≡ keep_rows x ks
kept_are no_pair = refl
kept_are (one_pair {s} {n} {ks} {x} {y} {z} one more) = kept_are more ∙ ap (λ (r : List Row). keep_rows r ks) one.value

module _ (m : Meaning) (hopeless : ℕ → ℕ → Bool) where
  -- a step that is made is the one that computes
  Same : List Row → Made → Running → Type 0
  Same rows made R = R.sure ≡ true → (made.machine ≡ R.machine) × (keep_rows rows made.keeps ≡ R.rows)

  step_is : (rows : List Row) (S : Machine) (made : Made) → Step m (recall_rows rows) hopeless S made → Same rows made (in_stage m hopeless rows S S.stage)
  unfolding Same
  step_is rows S made c =
      subst (λ (g : Stage). Same rows made (in_stage m hopeless rows S g)) (sym c.going)
      (subst (λ (es : List Entry). Same rows made (with_entries m hopeless rows S es)) (sym c.entries) go)
    where
      go : Same rows made (with_entries m hopeless rows S (part c.top c.from ∷ c.rest))
      go e =
          let w = filter_is m c.top c.stands c.result e c.filtered in
          let same : made ≡ next m (recall_rows rows) hopeless S.bound S.round c.from (outcome m c.top).result c.rest (outcome m c.top).stands
          = c.does ∙ ap₂ (λ (q : Structure) (b : Bool). next m (recall_rows rows) hopeless S.bound S.round c.from q c.rest b) w.1 w.0 in
          (ap (λ (d : Made). d.machine) same, ap (λ (d : Made). keep_rows rows d.keeps) same)

  -- all steps that are made are those that compute
  pub steps_are : {n : ℕ} {S : Machine} {x : ListMemory} {S' : Machine} {y : ListMemory} → Steps ListMemory recalled kept m hopeless n S x S' y
      → (steps m hopeless n (from S x)).sure ≡ true
      → (S' ≡ (steps m hopeless n (from S x)).machine) × (y ≡ (steps m hopeless n (from S x)).rows)
  unfolding Same
  steps_are no_step e = (refl, refl)
  steps_are (one_more {n} {S} {x} {S₁} {x₁} {made} {x₂} before c k) e = rw add-one (go (steps_are before) (rw add-one at e))
    where
      R : Running
      R = steps m hopeless n (from S x)

      go : (R.sure ≡ true → (S₁ ≡ R.machine) × (x₁ ≡ R.rows)) → (step m hopeless R).sure ≡ true → (made.machine ≡ (step m hopeless R).machine) × (x₂ ≡ (step m hopeless R).rows)
      go ih e =
          let w = and_parts R.sure (in_stage m hopeless R.rows R.machine R.machine.stage).sure e in
          let same = ih w.0 in
          let c' = subst₂ (λ (r : List Row) (M : Machine). Step m (recall_rows r) hopeless M made) same.1 same.0 c in
          let u = step_is R.rows R.machine made c' w.1 in
          (u.0, kept_are k ∙ ap (λ (r : List Row). keep_rows r made.keeps) same.1 ∙ u.1)

-- pairs can be kept one after the other
keeping : (ks : List (ℕ × ℕ)) (x : ListMemory) → IsListed x → Keeps ListMemory kept ks x (keep_rows x ks) × IsListed (keep_rows x ks)
keeping [] x l = (no_pair, l)
keeping (k ∷ ks) x l =
    let next = keep_row 256 x k.0 k.1 in
    let listed = listed-keep_row x k.0 k.1 l in
    let more = keeping ks next listed in
    (one_pair {s = k.0} {n = k.1} {y = next} (record { value = refl; listed = listed }) more.0, more.1)

module _ (m : Meaning) (hopeless : ℕ → ℕ → Bool) where
  -- the step that computes can be made
  record Stepping (before : List Row) (S : Machine) (R : Running) : Type 0 where
    made : Made
    step : Step m (recall_rows before) hopeless S made
    machine : made.machine ≡ R.machine
    rows : keep_rows before made.keeps ≡ R.rows

  topped : (rows : List Row) (S : Machine) → S.stage ≡ unfinished → (es : List Entry) → S.entries ≡ es → (with_entries m hopeless rows S es).sure ≡ true → Stepping rows S (with_entries m hopeless rows S es)
  topped rows S g [] q e = absurd (both_ways false refl e)
  topped rows S g (pair s n ∷ rest) q e = absurd (both_ways false refl e)
  topped rows S g (part p from ∷ rest) q e = record {
    made = next m (recall_rows rows) hopeless S.bound S.round from (outcome m p).result rest (outcome m p).stands;
    step = record { going = g; top = p; from = from; rest = rest; entries = q; stands = (outcome m p).stands; result = (outcome m p).result; filtered = computed m p e; does = refl };
    machine = refl;
    rows = refl;
  }

  staged : (rows : List Row) (S : Machine) (g : Stage) → S.stage ≡ g → (in_stage m hopeless rows S g).sure ≡ true → Stepping rows S (in_stage m hopeless rows S g)
  staged rows S blank q e = absurd (both_ways false refl e)
  staged rows S unfinished q e = topped rows S q S.entries refl e
  staged rows S (found plan) q e = absurd (both_ways false refl e)
  staged rows S none q e = absurd (both_ways false refl e)

  record Chain (n : ℕ) (S : Machine) (x : ListMemory) (R : Running) : Type 0 where
    made : Steps ListMemory recalled kept m hopeless n S x R.machine R.rows
    listed : IsListed R.rows

  chain : (n : ℕ) (S : Machine) (x : ListMemory) → IsListed x → (steps m hopeless n (from S x)).sure ≡ true → Chain n S x (steps m hopeless n (from S x))
  chain zero S x l e = record { made = no_step; listed = l }
  chain (suc n) S x l e = go (steps m hopeless n (from S x)) (chain n S x l) e
    where
      go : (R : Running) → (R.sure ≡ true → Chain n S x R) → (step m hopeless R).sure ≡ true → Chain (suc n) S x (step m hopeless R)
      go R ih e =
          let w = and_parts R.sure (in_stage m hopeless R.rows R.machine R.machine.stage).sure e in
          let before = ih w.0 in
          let u = staged R.rows R.machine R.machine.stage refl w.1 in
          let k = keeping u.made.keeps R.rows before.listed in
          let more = rw add-one at (one_more before.made u.step k.0) in
          record {
            made = subst₂ (λ (M : Machine) (r : List Row). Steps ListMemory recalled kept m hopeless (suc n) S x M r) u.machine u.rows more;
            listed = subst IsListed u.rows k.1;
          }

-- where a run is sure, it was unfinished before
module _ (m : Meaning) (hopeless : ℕ → ℕ → Bool) (R : Running) where
  going_on : (rows : List Row) (S : Machine) (g : Stage) → (in_stage m hopeless rows S g).sure ≡ true → g ≡ unfinished
  going_on rows S blank e = absurd (both_ways false refl e)
  going_on rows S unfinished e = refl
  going_on rows S (found plan) e = absurd (both_ways false refl e)
  going_on rows S none e = absurd (both_ways false refl e)

  was_unfinished : (n : ℕ) → (steps m hopeless n R).sure ≡ true → (j : ℕ) → j < n → ((steps m hopeless j R).sure ≡ true) × ((steps m hopeless j R).machine.stage ≡ unfinished)
  was_unfinished zero e j h = absurd (omega arith)
  was_unfinished (suc n) e j h =
      let M = steps m hopeless n R in
      let w = and_parts M.sure (in_stage m hopeless M.rows M.machine M.machine.stage).sure e in
      let here = going_on M.rows M.machine M.machine.stage w.1 in
      elim (cases_eq j n) [
        | inl q ↦ subst (λ (k : ℕ). ((steps m hopeless k R).sure ≡ true) × ((steps m hopeless k R).machine.stage ≡ unfinished)) (sym q) (w.0, here)
        | inr ne ↦ was_unfinished n w.0 j (omega arith)
      ]

-- an advance makes all its steps where the run that computes is sure
pub advance_is : (m : Meaning) (hopeless : ℕ → ℕ → Bool) (n : ℕ) (S : Machine) (x : ListMemory) → (steps m hopeless n (from S x)).sure ≡ true
    → (S' : Machine) (y : ListMemory) (made : ℕ) → Advanced ListMemory recalled kept m hopeless n S x S' y made
    → (made ≡ n) × (S' ≡ (steps m hopeless n (from S x)).machine) × (y ≡ (steps m hopeless n (from S x)).rows)
advance_is m hopeless n S x e S' y made v = elim (cases_lt made n) [
  | inl h ↦
      let w = was_unfinished m hopeless (from S x) n e made h in
      let u = steps_are m hopeless v.steps w.0 in
      let q = v.all (ap (λ (M : Machine). M.stage) u.0 ∙ w.1) in
      absurd (omega arith)
  | inr h ↦
      let q : made ≡ n = let f = v.few in omega arith in
      let r = subst (λ (k : ℕ). Steps ListMemory recalled kept m hopeless k S x S' y) q v.steps in
      let u = steps_are m hopeless r e in
      (q, u.0, u.1)
]

-- a row of the table: the run computes to it
pub ends : (m : Meaning) (bound n : ℕ) → (run m bound n).sure ≡ true → Ends m bound n (run m bound n).machine.stage (run m bound n).rows
ends m bound n e = record {
  every = λ y S r. let u = steps_are m (goal_count m) r e in (ap (λ (M : Machine). M.stage) u.0, u.1);
  some = let c = chain m (goal_count m) n (put_up m bound 0) [] none_listed e in ((run m bound n).machine, (run m bound n).rows, c.made, remembered _ c.listed);
  advance = λ y S made v. let u = advance_is m (goal_count m) n (put_up m bound 0) [] e S y made v in (u.0, ap (λ (M : Machine). M.stage) u.1, u.2);
}
  where
    none_listed : IsListed []
    none_listed = record { few = omega arith; apart = λ i j d lt within. absurd (omega arith) }
