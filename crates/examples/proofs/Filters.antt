-- What the sweeps leave is what the filter leaves. Everything that a sweep removes, a rule removes of every consistent structure
-- below, so that each of these stays below; where nothing goes any more, what is left is consistent itself.
use Rattle.std.proofs.Common.{◌≡◌, ℕ, zero, suc, ◌<◌, ◌≤◌, Bool, true, false, not, ◌&&◌, ltb, leb, ◌⊎◌, ℤ, sym, refl, ap, ◌∙◌, subst, ap₂, inl, inr, arith}
use mathlib.Core.Path.{fun_ext}
use lib.Dec.{leb-suc-suc}
use Rattle.std.proofs.lemmas.Bool.{both_ways, not-true, not_from_false, and_parts, and_from, or_cases, or_left, or_right, ltb-true, leb-true, lt-ltb, le-leb}
use Rattle.tasks.specs.Meaning.{Meaning, value, opposite}
use Rattle.filter.specs.Structures.{Structure, Below, trimmed, bare}
use Rattle.filter.specs.Rules.{stage, Settled}
use Rattle.filter.specs.Filtering.{Consistent, Filtered}
use Rattle.filter.specs.Filtering.Filtered.{kept, wiped}
use Rattle.filter.proofs.Values.{opposed}
use Rattle.filter.proofs.Uniqueness.{one_result}
use Rattle.estimators.specs.Tallies.{all_at, all_from}
use Rattle.search.proofs.Lowest.{some_in, some_witness}
use Rattle.examples.proofs.Sweeps.{tells, valued, listed, written, makes_it, makes_if_left, needs_if_left, some_makes, goes_after, goes_before, goes_behind, value_stays, bars, bars_either, barred, action_stays, swept, action_firm, value_firm, step_firm, fact_firm, level_firm, steps_firm, levels_firm, firm, step_full, fact_full, level_full, steps_full, levels_full, full, Outcome, pick, sweeps, outcome}
use Rattle.examples.proofs.Ranges.{tells_is, is_told, table_at, twice, implied, implies, off, never_true, never_false, either_value, either_way}

abbrev made_of : ℕ → (ℕ → ℕ → Bool) → (ℕ → ℕ → Bool → Bool) → Structure
made_of k l o = record { round = k; left = l; possible = o }

-- only numbers of the task and of the round
abbrev Trim : Meaning → Structure → Type 0
Trim m p = p ≡ trimmed m p

written_trimmed : (m : Meaning) (p : Structure) → written m p ≡ trimmed m p
written_trimmed m p = ap₂ (made_of p.round)
    (fun_ext (λ i. fun_ext (λ a. table_at p.round m.actions p.left i a)))
    (fun_ext (λ i. fun_ext (λ f. fun_ext (λ v. level i f v))))
  where
    level : (i f : ℕ) (v : Bool) → valued (listed m p) i f v ≡ ((leb i p.round && ltb f m.facts) && p.possible i f v)
    level i f true = table_at (suc p.round) m.facts (λ i f. p.possible i f true) i f ∙ ap (λ b. (b && ltb f m.facts) && p.possible i f true) (leb-suc-suc i p.round)
    level i f false = table_at (suc p.round) m.facts (λ i f. p.possible i f false) i f ∙ ap (λ b. (b && ltb f m.facts) && p.possible i f false) (leb-suc-suc i p.round)

trimmed_trim : (m : Meaning) (p : Structure) → Trim m (trimmed m p)
trimmed_trim m p = ap₂ (made_of p.round)
    (fun_ext (λ i. fun_ext (λ a. twice (ltb i p.round && ltb a m.actions) (p.left i a))))
    (fun_ext (λ i. fun_ext (λ f. fun_ext (λ v. twice (leb i p.round && ltb f m.facts) (p.possible i f v)))))

written_trim : (m : Meaning) (p : Structure) → Trim m (written m p)
written_trim m p = subst (λ (q : Structure). Trim m q) (sym (written_trimmed m p)) (trimmed_trim m p)

-- what a trim structure has is in range
module _ (m : Meaning) (p : Structure) (trim : Trim m p) where
  left_in : (i a : ℕ) → p.left i a ≡ true → (i < p.round) × (a < m.actions)
  left_in i a e =
      let w = and_parts (ltb i p.round && ltb a m.actions) (p.left i a) (sym (ap (λ q. q.left i a) trim) ∙ e) in
      let v = and_parts (ltb i p.round) (ltb a m.actions) w.0 in
      (ltb-true i p.round v.0, ltb-true a m.actions v.1)

  possible_in : (i f : ℕ) (v : Bool) → p.possible i f v ≡ true → (i ≤ p.round) × (f < m.facts)
  possible_in i f v e =
      let w = and_parts (leb i p.round && ltb f m.facts) (p.possible i f v) (sym (ap (λ q. q.possible i f v) trim) ∙ e) in
      let u = and_parts (leb i p.round) (ltb f m.facts) w.0 in
      (leb-true i p.round u.0, ltb-true f m.facts u.1)

-- the number for the other value is the opposite of the number for this one
told_opposite : (z : ℤ) (v : Bool) → tells z (not v) ≡ true → z ≡ opposite (value v)
told_opposite z v e = tells_is z (not v) e ∙ sym (opposed v)

opposite_told : (z : ℤ) (v : Bool) → z ≡ opposite (value v) → tells z (not v) ≡ true
opposite_told z v e = is_told z (not v) (e ∙ opposed v)

-- what a sweep removes of p, a rule removes of every consistent structure below p
module _ (m : Meaning) (p x : Structure) (trim : Trim m p) (sub : Below x p) (cons : Consistent m x) where
  less : (i f : ℕ) (v : Bool) → i ≤ p.round → p.possible i f v ≡ false → x.possible i f v ≡ false
  less i f v h e = off (x.possible i f v) (p.possible i f v) (sub.possible i f v h) e

  here : (i : ℕ) → i < p.round → Settled m (stage x i)
  here i h = cons.closed i (omega (arith, sub.round))

  bars_not : (i a f : ℕ) (v : Bool) → i < p.round → f < m.facts → x.left i a ≡ true → bars m p i a f v ≡ true → ⊥
  bars_not i a f v h k l e = elim (or_cases _ _ e) [ inl one ↦ first (or_cases _ _ one) | inr u ↦ last (and_parts _ _ u) ]
    where
      first : ((tells (m.needs a f) v && not (p.possible i f v)) ≡ true) ⊎ ((tells (m.makes a f) v && not (p.possible (suc i) f v)) ≡ true) → ⊥
      first (inl u) = let w = and_parts _ _ u in (here i h).needs_the_impossible a l (f, v, k, tells_is (m.needs a f) v w.0, less i f v (omega arith) (not-true _ w.1))
      first (inr u) = let w = and_parts _ _ u in (here i h).makes_the_impossible a l (f, v, k, tells_is (m.makes a f) v w.0, less (suc i) f v (omega arith) (not-true _ w.1))

      last : ((not (p.possible i f v) && not (p.possible (suc i) f (not v))) ≡ true) × (not (tells (m.makes a f) v) ≡ true) → ⊥
      last w =
          let z = and_parts (not (p.possible i f v)) (not (p.possible (suc i) f (not v))) w.0 in
          (here i h).misses_a_required_change a l
          (f, v, k, less i f v (omega arith) (not-true _ z.0), less (suc i) f (not v) (omega arith) (not-true _ z.1), λ e. both_ways _ (not-true _ w.1) (is_told (m.makes a f) v e))

  action_in : (i a : ℕ) → i < p.round → x.left i a ≡ true → a < m.actions
  action_in i a h l = (left_in m p trim i a (sub.left i a h l)).1

  keeps_left : (i a : ℕ) → i < p.round → x.left i a ≡ true → action_stays m p i a ≡ true
  keeps_left i a h l = and_from (p.left i a) (not (barred m p i a)) (sub.left i a h l) (not_from_false _ (never_true (barred m p i a) (λ e.
      let w = some_witness m.facts (bars_either m p i a) e in
      elim (or_cases _ _ w.2) [ inl u ↦ bars_not i a w.0 true h w.1 l u | inr u ↦ bars_not i a w.0 false h w.1 l u ])))

  one_makes : (i f a : ℕ) (v : Bool) → i < p.round → x.left i a ≡ true → m.makes a f ≡ value v → some_makes m p i f v ≡ true
  one_makes i f a v h l e = some_in m.actions (makes_it m p i f v) a (action_in i a h l) (and_from _ _ (sub.left i a h l) (is_told (m.makes a f) v e))

  after_not : (i f : ℕ) (v : Bool) → i < p.round → f < m.facts → x.possible (suc i) f v ≡ true → goes_after m p i f v ≡ true → ⊥
  after_not i f v h k o e = elim (or_cases _ _ e) [
    | inl u ↦
        let w = and_parts _ _ u in
        (here i h).neither_possible_before_nor_made f v k o (less i f v (omega arith) (not-true _ w.0), λ a l q. both_ways _ (not-true _ w.1) (one_makes i f a v h l q))
    | inr u ↦
        (here i h).opposite_always_made f v k o
        (λ a l. told_opposite (m.makes a f) v (implied (p.left i a) _ (all_at (makes_if_left m p i f (not v)) m.actions u a (action_in i a h l)) (sub.left i a h l)))
  ]

  before_not : (i f : ℕ) (v : Bool) → i < p.round → f < m.facts → x.possible i f v ≡ true → goes_before m p i f v ≡ true → ⊥
  before_not i f v h k o e = elim (or_cases _ _ e) [
    | inl u ↦
        let w = and_parts _ _ u in
        (here i h).neither_possible_after_nor_undone f v k o
        (less (suc i) f v (omega arith) (not-true _ w.0), λ a l q. both_ways _ (not-true _ w.1) (one_makes i f a (not v) h l (q ∙ opposed v)))
    | inr u ↦
        (here i h).opposite_always_needed f v k o
        (λ a l. told_opposite (m.needs a f) v (implied (p.left i a) _ (all_at (needs_if_left m p i f (not v)) m.actions u a (action_in i a h l)) (sub.left i a h l)))
  ]

  behind_not : (i f : ℕ) (v : Bool) → i ≤ p.round → f < m.facts → x.possible i f v ≡ true → goes_behind m p i f v ≡ true → ⊥
  behind_not zero f v h k o e = both_ways false refl e
  behind_not (suc i) f v h k o e = after_not i f v h k o e

  keeps_possible : (i f : ℕ) (v : Bool) → i ≤ p.round → x.possible i f v ≡ true → value_stays m p i f v ≡ true
  keeps_possible i f v h o =
      let there = sub.possible i f v h o in
      let k = (possible_in m p trim i f v there).1 in
      and_from _ _
      (and_from _ _ there (not_from_false _ (never_true (goes_behind m p i f v) (behind_not i f v h k o))))
      (not_from_false _ (never_true (ltb i p.round && goes_before m p i f v) (λ e.
      let w = and_parts _ _ e in before_not i f v (ltb-true i p.round w.0) k o w.1)))

  below_swept : Below x (swept m p)
  below_swept = record { round = sub.round; left = keeps_left; possible = keeps_possible }

-- what is below p and below a trim structure is below p as it is written
below_written : (m : Meaning) (p x q : Structure) → Trim m q → q.round ≡ p.round → Below x q → Below x p → Below x (written m p)
below_written m p x q trim r inside sub = subst (λ (y : Structure). Below x y) (sym (written_trimmed m p)) record {
  round = sub.round;
  left = λ i a h e. let w = left_in m q trim i a (inside.left i a (omega arith) e) in
      and_from _ _ (and_from _ _ (lt-ltb i p.round h) (lt-ltb a m.actions w.1)) (sub.left i a h e);
  possible = λ i f v h e. let w = possible_in m q trim i f v (inside.possible i f v (omega arith) e) in
      and_from _ _ (and_from _ _ (le-leb i p.round h) (lt-ltb f m.facts w.1)) (sub.possible i f v h e);
}

-- where a sweep leaves all as it is, every stage is settled
module _ (m : Meaning) (p : Structure) (trim : Trim m p) (all : firm m p ≡ true) where
  not_barred : (i a : ℕ) → p.left i a ≡ true → barred m p i a ≡ false
  not_barred i a l =
      let w = left_in m p trim i a l in
      let s = all_at (step_firm m p) p.round (and_parts (steps_firm m p) (levels_firm m p) all).0 i w.0 in
      let u = all_at (action_firm m p i) m.actions s a w.1 in
      not-true _ (and_parts (p.left i a) _ (implied (p.left i a) _ u l)).1

  stays : (i f : ℕ) (v : Bool) → p.possible i f v ≡ true → value_stays m p i f v ≡ true
  stays i f v o =
      let w = possible_in m p trim i f v o in
      let s = all_at (level_firm m p) (suc p.round) (and_parts (steps_firm m p) (levels_firm m p) all).1 i (omega (arith, w.0)) in
      go v (and_parts (value_firm m p i f true) (value_firm m p i f false) (all_at (fact_firm m p i) m.facts s f w.1)) o
    where
      go : (v : Bool) → (value_firm m p i f true ≡ true) × (value_firm m p i f false ≡ true) → p.possible i f v ≡ true → value_stays m p i f v ≡ true
      go true u o = implied (p.possible i f true) _ u.0 o
      go false u o = implied (p.possible i f false) _ u.1 o

  not_after : (i f : ℕ) (v : Bool) → p.possible (suc i) f v ≡ true → goes_after m p i f v ≡ false
  not_after i f v o = not-true _ (and_parts (p.possible (suc i) f v) _ (and_parts _ _ (stays (suc i) f v o)).0).1

  not_before : (i f : ℕ) (v : Bool) → i < p.round → p.possible i f v ≡ true → goes_before m p i f v ≡ false
  not_before i f v h o = never_true _ (λ e. both_ways _ (not-true _ (and_parts _ _ (stays i f v o)).1) (and_from _ _ (lt-ltb i p.round h) e))

  none_makes : (i f : ℕ) (v : Bool) → ((a : ℕ) → p.left i a ≡ true → m.makes a f ≡ value v → ⊥) → some_makes m p i f v ≡ false
  none_makes i f v h = never_true _ (λ e.
      let w = some_witness m.actions (makes_it m p i f v) e in
      let u = and_parts _ _ w.2 in
      h w.0 u.0 (tells_is (m.makes w.0 f) v u.1))

  settled : (i : ℕ) → i < p.round → Settled m (stage p i)
  settled i h = record {
    neither_possible_before_nor_made = λ f v k o r. both_ways _ (not_after i f v o) (or_left _ _ (and_from _ _ (not_from_false _ r.0) (not_from_false _ (none_makes i f v r.1))));
    opposite_always_made = λ f v k o r. both_ways _ (not_after i f v o) (or_right _ _ (all_from (makes_if_left m p i f (not v)) m.actions (λ a _. implies (p.left i a) _ (λ l. opposite_told (m.makes a f) v (r a l)))));
    neither_possible_after_nor_undone = λ f v k o r. both_ways _ (not_before i f v h o) (or_left _ _ (and_from _ _ (not_from_false _ r.0) (not_from_false _ (none_makes i f (not v) (λ a l e. r.1 a l (e ∙ sym (opposed v)))))));
    opposite_always_needed = λ f v k o r. both_ways _ (not_before i f v h o) (or_right _ _ (all_from (needs_if_left m p i f (not v)) m.actions (λ a _. implies (p.left i a) _ (λ l. opposite_told (m.needs a f) v (r a l)))));
    needs_the_impossible = λ a l r. hit a r.0 r.1 r.2 l (or_left _ _ (or_left _ _ (and_from _ _ (is_told (m.needs a r.0) r.1 r.3) (not_from_false _ r.4))));
    makes_the_impossible = λ a l r. hit a r.0 r.1 r.2 l (or_left _ _ (or_right _ _ (and_from _ _ (is_told (m.makes a r.0) r.1 r.3) (not_from_false _ r.4))));
    misses_a_required_change = λ a l r. hit a r.0 r.1 r.2 l (or_right _ _ (and_from _ _ (and_from _ _ (not_from_false _ r.3) (not_from_false _ r.4)) (not_from_false _ (never_true _ (λ e. r.5 (tells_is (m.makes a r.0) r.1 e))))));
  }
    where
      hit : (a f : ℕ) (v : Bool) → f < m.facts → p.left i a ≡ true → bars m p i a f v ≡ true → ⊥
      hit a f v k l e = both_ways _ (not_barred i a l) (some_in m.facts (bars_either m p i a) f k (either_value (bars m p i a f) v e))

  full_consistent : full m p ≡ true → Consistent m p
  full_consistent e =
      let w = and_parts (steps_full m p) (levels_full m p) e in
      record {
        closed = settled;
        action = λ i h none. let u = some_witness m.actions (p.left i) (all_at (step_full m p) p.round w.0 i h) in both_ways _ (none u.0) u.2;
        value = λ i f h k. all_at (fact_full m p i) m.facts (all_at (level_full m p) (suc p.round) w.1 i (omega arith)) f k;
      }

-- what has a consistent structure below it is full
consistent_full : (m : Meaning) (p x : Structure) → Trim m p → Below x p → Consistent m x → full m p ≡ true
consistent_full m p x trim sub c = and_from (steps_full m p) (levels_full m p)
    (all_from (step_full m p) p.round (λ i h. never_false _ (λ e. c.action i (omega (arith, sub.round)) (λ a. never_true _ (λ l.
    let o = sub.left i a h l in both_ways _ e (some_in m.actions (p.left i) a (left_in m p trim i a o).1 o))))))
    (all_from (level_full m p) (suc p.round) (λ i h. all_from (fact_full m p i) m.facts (λ f k.
    either_way (x.possible i f true) (x.possible i f false) _ _ (sub.possible i f true (omega arith)) (sub.possible i f false (omega arith)) (c.value i f (omega (arith, sub.round)) k))))

-- the sweeps of o, at a structure p that has every consistent structure of o below it
module _ (m : Meaning) (o : Structure) where
  record Way (p : Structure) : Type 0 where
    trim : Trim m p
    sub : Below p (trimmed m o)
    holds : (x : Structure) → Consistent m x → Below x (trimmed m o) → Below x p

  goes_on : (p : Structure) → Way p → Way (written m (swept m p))
  goes_on p w = record {
    trim = written_trim m (swept m p);
    sub = subst (λ (y : Structure). Below y (trimmed m o)) (sym (written_trimmed m (swept m p))) record {
      round = w.sub.round;
      left = λ i a h e. w.sub.left i a h (and_parts (p.left i a) _ (and_parts _ _ e).1).0;
      possible = λ i f v h e. w.sub.possible i f v h (and_parts (p.possible i f v) _ (and_parts _ _ (and_parts _ _ e).1).0).0;
    };
    holds = λ x c s. below_written m (swept m p) x p w.trim refl (w.holds x c s) (below_swept m p x w.trim (w.holds x c s) c);
  }

  ends : (n : ℕ) (p : Structure) → Way p → (sweeps m n p).sure ≡ true → Filtered m o (sweeps m n p).stands (sweeps m n p).result
  ends zero p w e = absurd (both_ways false refl e)
  ends (suc n) p w e = go (ends n (written m (swept m p)) (goes_on p w)) (full m p) (firm m p) refl refl e
    where
      later : Outcome
      later = sweeps m n (written m (swept m p))

      go : (later.sure ≡ true → Filtered m o later.stands later.result) → (b c : Bool) → full m p ≡ b → firm m p ≡ c
          → (pick b c p later).sure ≡ true → Filtered m o (pick b c p later).stands (pick b c p later).result
      go ih false c fe se e = wiped refl (λ x cons s. both_ways _ fe (consistent_full m p x w.trim (w.holds x cons s) cons)) (ap bare w.sub.round)
      go ih true true fe se e = kept refl record { consistent = full_consistent m p w.trim se fe; below = w.sub; above = w.holds; trim = w.trim }
      go ih true false fe se e = ih e

below_itself : (p : Structure) → Below p p
below_itself p = record { round = refl; left = λ i a h e. e; possible = λ i f v h e. e }

-- the sweeps do what the filter does
pub computed : (m : Meaning) (o : Structure) → (outcome m o).sure ≡ true → Filtered m o (outcome m o).stands (outcome m o).result
computed m o e = ends m o 200 (written m o) record {
  trim = written_trim m o;
  sub = subst (λ (y : Structure). Below y (trimmed m o)) (sym (written_trimmed m o)) (below_itself (trimmed m o));
  holds = λ x c s. subst (λ (y : Structure). Below x y) (sym (written_trimmed m o)) s;
} e

-- and so the filter does what the sweeps do
pub filter_is : (m : Meaning) (o : Structure) (b : Bool) (p : Structure) → (outcome m o).sure ≡ true → Filtered m o b p → (b ≡ (outcome m o).stands) × (p ≡ (outcome m o).result)
filter_is m o b p e f = one_result m o b (outcome m o).stands p (outcome m o).result f (computed m o e)
