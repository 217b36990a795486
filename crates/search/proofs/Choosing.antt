-- How a step is split. The facts that are undecided after the step are weighed from the lowest on; the others have no distance,
-- so passing over them changes nothing. Of two actions or more, either half has one.
use Rattle.std.proofs.Common.{◌≡◌, ℕ, zero, suc, ◌+◌, ◌-◌, ◌<◌, ◌≤◌, Bool, true, false, cond, not, ◌&&◌, ◌||◌, eqb, ltb, leb, ◌⊎◌, Some, None, Option, sym, refl, ap, ◌∙◌, subst, ap₂, inl, inr, arith}
use mathlib.Core.Path.{fun_ext}
use Rattle.std.proofs.Math.Bool.{and-true, and_self_left}
use Rattle.std.proofs.lemmas.Bool.{and_from, and_left, and_parts, and_right, both_ways, cases_Bool, cases_eq, cases_lt, eq-eqb, le-leb, leb-true, lt-ltb, ltb-true, ne_eqb, not_from_false, not-true}
use Rattle.sets.specs.Counts.{Empty, Lowest, Popped, count}
use Rattle.sets.specs.Sets.{among, has, holds, ActionSet, FactSet}
use Rattle.sets.specs.Signs.{says}
use Rattle.sets.proofs.Counting.{count_ext}
use Rattle.tasks.specs.Meaning.{Meaning}
use Rattle.estimators.specs.Tallies.{count_cut}
use Rattle.filter.specs.declared.part.Part.{Part}
use Rattle.filter.specs.Parts.{level_at, step_at, structure}
use Rattle.filter.specs.Structures.{Structure}
use Rattle.filter.proofs.Uniqueness.{both_follow}
use Rattle.search.specs.Parts.{OfTask}
use Rattle.search.specs.Steps.{best_below, better, distance, falsifies, first_half, lowest}
use Rattle.search.proofs.Lowest.{lowest_is as first_passing}

-- The lowest member

pub lowest_is : (n k : ℕ) (g : ℕ → Bool) → k < n → Lowest g k → lowest n g ≡ k
lowest_is n k g lt low = first_passing n g k (omega arith) (λ _. low.member) (λ j l. elim (cases_Bool (g j)) [ inl e ↦ absurd (let q = low.least j e in omega arith) | inr e ↦ e ])

-- the lowest action alone
pub alone : (left empty made : ActionSet) (k n : ℕ) → n ≤ 128 → Lowest (among left) k → ((a : ℕ) → among left a ≡ true → a < n)
    → ((a : ℕ) → among empty a ≡ false) → ((a : ℕ) → among made a ≡ (among empty a || (ltb k 128 && eqb a k)))
    → (a : ℕ) → among made a ≡ (among left a && eqb a (lowest n (among left)))
alone left empty made k n few low within none with a =
    with a ∙ ap₂ (λ (x y : Bool). x || (y && eqb a k)) (none a) (lt-ltb k 128 (let l = within k low.member in omega arith))
    ∙ elim (cases_eq a k) [
      | inl e ↦ rw (eq-eqb a k e, subst (λ (j : ℕ). among left j ≡ true) (sym e) low.member)
      | inr ne ↦ ne_eqb a k ne ∙ sym (and_right (among left a) (eqb a k) (ne_eqb a k ne))
    ]
    ∙ ap (λ (j : ℕ). among left a && eqb a j) (sym (lowest_is n k (among left) (within k low.member) low))

-- Weighing the facts

-- both values of the fact are left after step i
abbrev pub undecided : Structure → ℕ → ℕ → Bool
undecided q i f = q.possible (i + 1) f true && q.possible (i + 1) f false

abbrev spread : Bool → ℕ → ℕ → Option ℕ
spread b d r = cond (b && (ltb 0 d && ltb 0 r)) (Some ((d - r) + (r - d))) None

-- what the loop keeps: the facts below `next` are weighed, the undecided from there on are left
pub record Weighed (m : Meaning) (q : Structure) (i : ℕ) (rest : FactSet) (best : Option (ℕ × ℕ)) : Type 0 where
  pub next : ℕ
  pub few : next ≤ m.facts
  pub best_is : best ≡ best_below m q i next
  pub rest_is : (f : ℕ) → holds rest f ≡ (undecided q i f && leb next f)

module _ (m : Meaning) (q : Structure) (i : ℕ) where
  no_distance : (f : ℕ) → undecided q i f ≡ false → distance m q i f ≡ None
  unfolding distance
  no_distance f e = ap (λ (b : Bool). spread b (count (falsifies m q i f) m.actions) (count (λ a. q.left i a && not (says (m.makes a f) false)) m.actions)) e

  passed_over : (n k : ℕ) → n ≤ k → ((f : ℕ) → n ≤ f → f < k → undecided q i f ≡ false) → best_below m q i k ≡ best_below m q i n
  unfolding best_below better
  passed_over n zero le none = ap (best_below m q i) (let e : 0 ≡ n = omega arith in e)
  passed_over n (suc k) le none = go (cases_eq n (suc k)) (λ l. passed_over n k l (λ f from to. none f from (omega arith)))
    where
      go : (n ≡ suc k) ⊎ (n ≡ suc k → ⊥) → (n ≤ k → best_below m q i k ≡ best_below m q i n) → best_below m q i (suc k) ≡ best_below m q i n
      go (inl e) lower = ap (best_below m q i) (sym e)
      go (inr ne) lower =
          ap (λ (d : Option ℕ). better m q k d (best_below m q i k)) (no_distance k (none k (omega arith) (omega arith))) ∙ lower (omega arith)

module _ (m : Meaning) (p : Part) (i : ℕ) (of : OfTask m p) (lt : i < p.round) where
  left_is : (a : ℕ) → (structure p).left i a ≡ among (step_at p i) a
  left_is a = ap (λ (b : Bool). b && among (step_at p i) a) (lt-ltb i p.round lt)

  left_below : (a : ℕ) → among (step_at p i) a ≡ true → a < m.actions
  left_below a e =
      let all = sym (ap (λ (s : Structure). s.left i a) of.trim) ∙ left_is a ∙ e in
      ltb-true a m.actions (and_parts (ltb i p.round) (ltb a m.actions) (and_parts (ltb i p.round && ltb a m.actions) ((structure p).left i a) all).0).1

  possible_is : (f : ℕ) (v : Bool) → (structure p).possible (i + 1) f v ≡ has (level_at p (i + 1)) f v
  possible_is f v = ap (λ (b : Bool). b && has (level_at p (i + 1)) f v) (le-leb (i + 1) p.round (omega arith))

  undecided_below : (f : ℕ) → undecided (structure p) i f ≡ true → f < m.facts
  undecided_below f e =
      let one = (and_parts ((structure p).possible (i + 1) f true) ((structure p).possible (i + 1) f false) e).0 in
      let all = sym (ap (λ (s : Structure). s.possible (i + 1) f true) of.trim) ∙ one in
      ltb-true f m.facts (and_parts (leb (i + 1) p.round) (ltb f m.facts) (and_parts (leb (i + 1) p.round && ltb f m.facts) ((structure p).possible (i + 1) f true) all).0).1

  -- counting past the task's actions adds nothing
  counted : (s t : ℕ → Bool) → ((a : ℕ) → s a ≡ t a) → count (λ a. among (step_at p i) a && s a) 128 ≡ count (λ a. (structure p).left i a && t a) m.actions
  counted s t e =
      count_cut (λ a. among (step_at p i) a && s a) m.actions 128 of.lawful.actions_most (λ a from to. and_left (among (step_at p i) a) (s a) (past a from))
      ∙ count_ext (λ a. among (step_at p i) a && s a) (λ a. (structure p).left i a && t a) m.actions (λ a l. ap₂ (λ (x y : Bool). x && y) (sym (left_is a)) (e a))
    where
      past : (a : ℕ) → m.actions ≤ a → among (step_at p i) a ≡ false
      past a from = elim (cases_Bool (among (step_at p i) a)) [ inl h ↦ absurd (let l = left_below a h in omega arith) | inr h ↦ h ]

  distance_is : (f : ℕ) (removers : ActionSet) → undecided (structure p) i f ≡ true → ((a : ℕ) → among removers a ≡ says (m.makes a f) false)
      → spread true (count (λ a. among (step_at p i) a && among removers a) 128) (count (λ a. among (step_at p i) a && not (among removers a)) 128) ≡ distance m (structure p) i f
  unfolding distance falsifies
  distance_is f removers both are =
      ap₂ (spread true) (counted (among removers) (λ a. says (m.makes a f) false) are) (counted (λ a. not (among removers a)) (λ a. not (says (m.makes a f) false)) (λ a. ap not (are a)))
      ∙ ap (λ (b : Bool). spread b (count (λ a. (structure p).left i a && says (m.makes a f) false) m.actions) (count (λ a. (structure p).left i a && not (says (m.makes a f) false)) m.actions)) (sym both)

  -- before the first fact
  pub begun : (rest : FactSet) → ((f : ℕ) → holds rest f ≡ (has (level_at p (i + 1)) f true && has (level_at p (i + 1)) f false)) → Weighed m (structure p) i rest None
  unfolding best_below
  begun rest are = record {
    next = 0;
    few = omega arith;
    best_is = refl;
    rest_is = λ f. are f ∙ ap₂ (λ (x y : Bool). x && y) (sym (possible_is f true)) (sym (possible_is f false))
        ∙ sym (and-true (undecided (structure p) i f)) ∙ ap (λ (b : Bool). undecided (structure p) i f && b) (sym (le-leb 0 f (omega arith)));
  }

  module _ (rest : FactSet) (best : Option (ℕ × ℕ)) (w : Weighed m (structure p) i rest best) where
    resting : (f : ℕ) → holds rest f ≡ true → (undecided (structure p) i f ≡ true) × (leb w.next f ≡ true)
    resting f e = and_parts (undecided (structure p) i f) (leb w.next f) (sym (w.rest_is f) ∙ e)

    rests : (f : ℕ) → undecided (structure p) i f ≡ true → w.next ≤ f → holds rest f ≡ true
    rests f e le = w.rest_is f ∙ and_from (undecided (structure p) i f) (leb w.next f) e (le-leb w.next f le)

    -- nothing undecided stands before the lowest of the rest
    decided_before : (k : ℕ) → ((f : ℕ) → holds rest f ≡ true → k ≤ f) → (f : ℕ) → w.next ≤ f → f < k → undecided (structure p) i f ≡ false
    decided_before k least f from to = elim (cases_Bool (undecided (structure p) i f)) [
      | inl h ↦ absurd (let l = least f (rests f h from) in omega arith)
      | inr h ↦ h
    ]

    without_lowest : (f : ℕ) → Lowest (holds rest) f → (g : ℕ) → (holds rest g && not (eqb g f)) ≡ (undecided (structure p) i g && leb (suc f) g)
    without_lowest f low g = both_follow (holds rest g && not (eqb g f)) (undecided (structure p) i g && leb (suc f) g)
        (λ e.
        let in_both = and_parts (holds rest g) (not (eqb g f)) e in
        let le : f ≤ g = low.least g in_both.0 in
        let ne : g ≡ f → ⊥ = λ s. both_ways (eqb g f) (not-true (eqb g f) in_both.1) (eq-eqb g f s) in
        and_from (undecided (structure p) i g) (leb (suc f) g) (resting g in_both.0).0 (le-leb (suc f) g (above g f le ne)))
        (λ e.
        let in_both = and_parts (undecided (structure p) i g) (leb (suc f) g) e in
        let more : suc f ≤ g = leb-true (suc f) g in_both.1 in
        let from : w.next ≤ f = leb-true w.next f (resting f low.member).1 in
        and_from (holds rest g) (not (eqb g f)) (rests g in_both.0 (omega arith)) (not_from_false (eqb g f) (ne_eqb g f (λ s. omega arith))))
      where
        above : (g f : ℕ) → f ≤ g → (g ≡ f → ⊥) → suc f ≤ g
        above g f le ne = elim (cases_lt f g) [ inl l ↦ l | inr l ↦ absurd (ne (omega arith)) ]

  -- past one fact more
  pub gone_on : (rest less : FactSet) (best : Option (ℕ × ℕ)) (f : ℕ) (removers : ActionSet) → ((a : ℕ) → among removers a ≡ says (m.makes a f) false)
      → (d : Option ℕ) → d ≡ spread true (count (λ a. among (step_at p i) a && among removers a) 128) (count (λ a. among (step_at p i) a && not (among removers a)) 128)
      → (chosen : Option (ℕ × ℕ)) → ((n : Meaning) (q : Structure) → chosen ≡ better n q f d best)
      → Popped (holds rest) (Some f) (holds less) → Weighed m (structure p) i rest best → Weighed m (structure p) i less chosen
  unfolding best_below
  gone_on rest less best f removers are d d_is chosen chosen_is popped w =
      let low = popped.0 in
      let here = resting rest best w f low.member in
      let from : w.next ≤ f = leb-true w.next f here.1 in
      record {
        next = suc f;
        few = undecided_below f here.0;
        best_is = chosen_is m (structure p)
            ∙ ap₂ (better m (structure p) f) (d_is ∙ distance_is f removers here.0 are) (w.best_is ∙ sym (passed_over m (structure p) i w.next f from (decided_before rest best w f low.least)));
        rest_is = λ g. popped.1 g ∙ without_lowest rest best w f low g;
      }

  -- past all facts
  pub all_weighed : (rest : FactSet) (best : Option (ℕ × ℕ)) → Empty (holds rest) → Weighed m (structure p) i rest best → best ≡ best_below m (structure p) i m.facts
  all_weighed rest best none w =
      w.best_is ∙ sym (passed_over m (structure p) i w.next m.facts w.few (decided_before rest best w m.facts (λ f e. absurd (both_ways (holds rest f) (none f) e))))

  -- The half

  pub removers_first : (b : ℕ × ℕ) → Some b ≡ best_below m (structure p) i m.facts → (removers : ActionSet) → ((a : ℕ) → among removers a ≡ says (m.makes a b.1) false)
      → (made : ActionSet) → ((a : ℕ) → among made a ≡ (among (step_at p i) a && among removers a))
      → (a : ℕ) → among made a ≡ (among (step_at p i) a && first_half m (structure p) i (best_below m (structure p) i m.facts) a)
  unfolding first_half falsifies
  removers_first b best removers are made made_is a =
      made_is a ∙ ap (λ (x : Bool). among (step_at p i) a && x) (are a) ∙ sym (and_self_left (among (step_at p i) a) (says (m.makes a b.1) false))
      ∙ ap (λ (x : Bool). among (step_at p i) a && (x && says (m.makes a b.1) false)) (sym (left_is a))
      ∙ ap (λ (o : Option (ℕ × ℕ)). among (step_at p i) a && first_half m (structure p) i o a) best

  pub lowest_first : None ≡ best_below m (structure p) i m.facts
      → (made : ActionSet) → (((a : ℕ) → among (step_at p i) a ≡ true → a < m.actions) → (a : ℕ) → among made a ≡ (among (step_at p i) a && eqb a (lowest m.actions (among (step_at p i)))))
      → (a : ℕ) → among made a ≡ (among (step_at p i) a && first_half m (structure p) i (best_below m (structure p) i m.facts) a)
  unfolding first_half
  lowest_first best made made_is a =
      made_is left_below a
      ∙ ap (λ (g : ℕ → Bool). among (step_at p i) a && eqb a (lowest m.actions g)) (sym (fun_ext left_is))
      ∙ ap (λ (o : Option (ℕ × ℕ)). among (step_at p i) a && first_half m (structure p) i o a) best
