-- Parts: the first of a round holds every plan of the round; the halves of a part hold between them what it held; what is dropped
-- held no plan; and single steps throughout are a shortest plan.
use Rattle.std.proofs.Common.{◌≡◌, ℕ, zero, suc, ◌-◌, ◌<◌, ◌≤◌, Bool, true, false, not, ◌&&◌, eqb, ltb, leb, ◌⊎◌, List, ◌++◌, length, get_or, drop, ℤ, pos, negsuc, Some, None, Option, sym, refl, ap, ◌∙◌, subst, inl, inr, arith, length-append, length-drop}
use Rattle.std.proofs.lemmas.List.{get_or_append_left}
use Rattle.std.proofs.lemmas.Bool.{cases_lt, cases_eq, and_parts, and_from, or_cases, not-true, eqb-true, eq-eqb, ltb-true, lt-ltb, le-leb}
use Rattle.sets.specs.Bits.{bit}
use Rattle.sets.specs.Signs.{says}
use Rattle.tasks.specs.Meaning.{Meaning, Lawful, Two, Three}
use Rattle.tasks.specs.States.{put, Holds, Reaches, Solves, Shortest, Hopeless, start_state, state_at}
use Rattle.tasks.proofs.Acting.{is_value}
use Rattle.tasks.specs.Layers.{usable_below}
use Rattle.tasks.proofs.Packing.{bit_packed}
use Rattle.filter.specs.Structures.{Structure}
use Rattle.filter.specs.Filtering.{Largest}
use Rattle.filter.specs.Filtering.Filtered.{kept}
use Rattle.filter.specs.Plans.{Inside, Fixes, Anchored, trace, state_of}
use Rattle.filter.proofs.Values.{never}
use Rattle.filter.proofs.Tracing.{applies_at, trace_consistent, trace_trimmed, loses_none}
use Rattle.filter.proofs.Singles.{single_plan}
use Rattle.memories.specs.Pairs.{Pairs, recalls}
use Rattle.memories.specs.Recalling.{recalled}
use Rattle.estimators.specs.Sound.{Sound}
use Rattle.search.specs.Steps.{first_part, wide, plan_from, half}
use Rattle.search.proofs.Counted.{count_less}
use Rattle.search.proofs.Moves.{Widens, Dropped}
use Rattle.search.proofs.Moves.Dropped.{wiped_out, hopeless_at}
use Rattle.search.proofs.Halves.{round_same, left_before, wide_many, single_few, half_round, half_left, half_own, half_other, half_possible}
use Rattle.search.proofs.Leading.{goals_at, rest_reaches, plan_long, fixes, leads, passes}
use Rattle.search.proofs.Invariant.{Follows, OpenEnded, Awaits, NoneShorter, Honest}

-- what is not against the start is the start, and what is not against a goal is the goal
not_against_start : (z : ℤ) (v : Bool) → Two z → says z (not v) ≡ false → v ≡ put z false
not_against_start (pos zero) v h e = absurd (omega arith)
not_against_start (pos (suc n)) true h e = refl
not_against_start (pos (suc n)) false h e = never cc
not_against_start (negsuc n) true h e = never cc
not_against_start (negsuc n) false h e = refl

start_not_against : (z : ℤ) → says z (not (put z false)) ≡ false
start_not_against (pos zero) = refl
start_not_against (pos (suc n)) = refl
start_not_against (negsuc n) = refl

not_against_goal : (z : ℤ) (v : Bool) → says z (not v) ≡ false → Holds z v
not_against_goal (pos zero) v e = (λ q. never cc, λ q. never cc)
not_against_goal (pos (suc n)) true e = (λ q. refl, λ q. never cc)
not_against_goal (pos (suc n)) false e = never cc
not_against_goal (negsuc n) true e = never cc
not_against_goal (negsuc n) false e = (λ q. never cc, λ q. refl)

goal_not_against : (z : ℤ) (v : Bool) → Three z → Holds z v → says z (not v) ≡ false
goal_not_against (pos zero) v t h = refl
goal_not_against (pos (suc zero)) v t h = ap not (h.0 refl)
goal_not_against (pos (suc (suc n))) v t h = absurd (omega arith)
goal_not_against (negsuc zero) v t h = ap (λ (b : Bool). not (not b)) (h.1 refl)
goal_not_against (negsuc (suc n)) v t h = absurd (omega arith)

at_level : (b x : Bool) → b ≡ true → not (b && x) ≡ true → x ≡ false
at_level true x e h = not-true x h
at_level false x e h = never cc

if_level : (b x : Bool) → (b ≡ true → x ≡ false) → not (b && x) ≡ true
if_level true x h = ap not (h refl)
if_level false x h = refl

module _ (m : Meaning) (lw : Lawful m) where
  pub first_anchored : (k : ℕ) → Anchored m (first_part m k)
  unfolding first_part
  first_anchored k = record {
    start = λ f v lt e. not_against_start (m.start f) v (lw.start_two f lt) (at_level (eqb 0 0) _ (eq-eqb 0 0 refl) (and_parts _ _ (and_parts (leb 0 k && ltb f m.facts) _ e).1).0) ∙ sym (bit_packed _ m.facts f lt);
    goal = λ f v lt e. not_against_goal (m.goal f) v (at_level (eqb k k) _ (eq-eqb k k refl) (and_parts (not (eqb k 0 && says (m.start f) (not v))) _ (and_parts (leb k k && ltb f m.facts) _ e).1).1);
    usable = λ i a lt e. (and_parts (ltb i k && ltb a m.actions) (m.usable a) e).1;
  }

  pub first_open : (k : ℕ) → OpenEnded m k (first_part m k) None
  unfolding first_part
  first_open k = record {
    round = refl;
    anchored = first_anchored k;
    narrow = λ j e. never cc;
    holds = λ acts e sol u. record {
      round = e;
      left = λ i b lt q.
          let may : m.usable b ≡ true = subst (λ (x : ℕ). m.usable x ≡ true) (sym (eqb-true b (get_or acts i 0) (and_parts (ltb i (length acts)) _ q).1)) (applies_at m (start_state m) acts i (omega arith) sol).usable in
          and_from _ _ (and_from _ _ (lt-ltb i k lt) (lt-ltb b m.actions (usable_below m lw b may))) may;
      possible = λ i f v le q.
          let w = and_parts (leb i (length acts) && ltb f m.facts) _ q in
          let is_v : bit (state_at m (start_state m) acts i) f ≡ v = is_value v _ w.1 in
          let of_task = (and_parts (leb i (length acts)) (ltb f m.facts) w.0).1 in
          let below : f < m.facts = ltb-true f m.facts of_task in
          and_from _ _ (and_from _ _ (le-leb i k le) of_task) (and_from _ _
          (if_level (eqb i 0) _ (λ z. at_start acts i f v below (eqb-true i 0 z) is_v))
          (if_level (eqb i k) _ (λ z. at_goal acts sol i f v below (eqb-true i k z ∙ sym e) is_v)));
    };
  }
    where
      at_start : (acts : List ℕ) (i f : ℕ) (v : Bool) → f < m.facts → i ≡ 0 → bit (state_at m (start_state m) acts i) f ≡ v → says (m.start f) (not v) ≡ false
      at_start acts i f v lt z e =
          let s : bit (start_state m) f ≡ v = subst (λ (n : ℕ). bit (state_at m (start_state m) acts n) f ≡ v) z e in
          subst (λ (b : Bool). says (m.start f) (not b) ≡ false) (sym (bit_packed _ m.facts f lt) ∙ s) (start_not_against (m.start f))

      at_goal : (acts : List ℕ) → Solves m acts → (i f : ℕ) (v : Bool) → f < m.facts → i ≡ length acts → bit (state_at m (start_state m) acts i) f ≡ v → says (m.goal f) (not v) ≡ false
      at_goal acts sol i f v lt z e =
          let s : bit (state_at m (start_state m) acts (length acts)) f ≡ v = subst (λ (n : ℕ). bit (state_at m (start_state m) acts n) f ≡ v) z e in
          goal_not_against (m.goal f) v (lw.goal_three f) (subst (λ (b : Bool). Holds (m.goal f) b) s (goals_at m (start_state m) acts sol f lt))

  filtering : (p q : Structure) → Largest m p q → (acts : List ℕ) → Solves m acts → Inside m p acts → Inside m q acts
  filtering p q large acts sol s = (loses_none m lw p q true (kept refl large) acts sol s).1

  left_anchored : (p q : Structure) → Largest m p q → Anchored m p → Anchored m q
  left_anchored p q large an =
      let b = large.below in
      record {
        start = λ f v lt e. an.start f v lt (and_parts (leb 0 p.round && ltb f m.facts) _ (b.possible 0 f v (omega arith) e)).1;
        goal = λ f v lt e. an.goal f v lt (and_parts (leb p.round p.round && ltb f m.facts) _ (b.possible p.round f v (omega arith) (subst (λ (n : ℕ). q.possible n f v ≡ true) b.round e))).1;
        usable = λ i a lt e. an.usable i a (subst (λ (n : ℕ). i < n) b.round lt) (left_before m p q large i a e);
      }

  half_anchored : (q : Structure) (i : ℕ) (d : ℕ → Bool) → Anchored m q → Anchored m (half m q i d)
  unfolding half
  half_anchored q i d an = record { start = an.start; goal = an.goal; usable = λ j a lt e. an.usable j a lt (half_left m q i d j a e) }

  -- a sequence in q is in the half where the action at step i is left
  in_half : (q : Structure) (i : ℕ) (d : ℕ → Bool) (acts : List ℕ) → Inside m q acts → d (get_or acts i 0) ≡ true → Inside m (half m q i d) acts
  in_half q i d acts s e = record {
    round = s.round ∙ sym (half_round m q i d);
    left = λ j b lt z. there j b (subst (λ (n : ℕ). j < n) (half_round m q i d) lt) z (cases_eq j i);
    possible = λ j f v le z. half_possible m q i d j f v ∙ s.possible j f v (subst (λ (n : ℕ). j ≤ n) (half_round m q i d) le) z;
  }
    where
      there : (j b : ℕ) → j < q.round → (trace m acts).left j b ≡ true → (j ≡ i) ⊎ (j ≡ i → ⊥) → (half m q i d).left j b ≡ true
      there j b lt z (inl same) =
          let act : b ≡ get_or acts i 0 = eqb-true b (get_or acts j 0) (and_parts (ltb j (length acts)) _ z).1 ∙ ap (λ n. get_or acts n 0) same in
          subst (λ (n : ℕ). (half m q i d).left n b ≡ true) (sym same)
          (half_own m q i d b ∙ and_from (q.left i b) (d b) (subst (λ (n : ℕ). q.left n b ≡ true) same (s.left j b lt z)) (ap d act ∙ e))
      there j b lt z (inr ne) = half_other m q i d j b ne ∙ s.left j b lt z

  pub in_a_half : (q : Structure) (i : ℕ) (d : ℕ → Bool) (acts : List ℕ) → Inside m q acts → Inside m (half m q i d) acts ⊎ Inside m (half m q i (λ a. not (d a))) acts
  in_a_half q i d acts s = go (d (get_or acts i 0)) refl
    where
      go : (b : Bool) → d (get_or acts i 0) ≡ b → Inside m (half m q i d) acts ⊎ Inside m (half m q i (λ a. not (d a))) acts
      go true e = inl (in_half q i d acts s e)
      go false e = inr (in_half q i (λ a. not (d a)) acts s (ap not e))

  module _ (k : ℕ) (p : Structure) (from : Option ℕ) (oe : OpenEnded m k p from) (q : Structure) (i : ℕ) (w : Widens m k p q i) where
    round_is : q.round ≡ k
    round_is = round_same m p q w.filtered ∙ oe.round

    q_anchored : Anchored m q
    q_anchored = left_anchored p q w.filtered oe.anchored

    way : List ℕ
    way = plan_from m q i 0

    long : length way ≡ i
    unfolding way
    long = plan_long m q i 0

    short : length way ≤ q.round
    short = let l = long in let r = round_is in let s = w.inside in omega arith

    fixed : Fixes q way
    unfolding way
    fixed = fixes m p q w.filtered i (let r = round_is in let s = w.inside in omega arith) w.single

    -- the parent was not split later
    not_later : (j : ℕ) → from ≡ Some j → j ≤ i
    not_later j e = elim (cases_lt i j) [
      | inl lt ↦ absurd (
          let less = count_less (q.left i) (p.left i) (λ a x. left_before m p q w.filtered i a x) m.actions in
          omega (arith, oe.narrow j e i lt, wide_many m q i w.choice))
      | inr le ↦ le
    ]

    pub filtered_inside : (acts : List ℕ) → Solves m acts → Inside m p acts → Inside m q acts
    filtered_inside acts sol s = filtering p q w.filtered acts sol s

    -- a plan whose actions up to the parent's split are left in q is held by q
    held_by : (acts : List ℕ) → length acts ≡ k → Solves m acts → ((j : ℕ) → from ≡ Some j → (l : ℕ) → l ≤ j → q.left l (get_or acts l 0) ≡ true) → Inside m q acts
    held_by acts e sol f = filtering p q w.filtered acts sol (oe.holds acts e sol (follows from refl))
      where
        follows : (o : Option ℕ) → from ≡ o → Follows p o acts
        follows None z = tt
        follows (Some j) z = λ l le below. left_before m p q w.filtered l (get_or acts l 0) (f j z l le)

    pub half_open : (d : ℕ → Bool) → OpenEnded m k (half m q i d) (Some i)
    half_open d = record {
      round = half_round m q i d ∙ round_is;
      anchored = half_anchored q i d q_anchored;
      narrow = λ j e l lt.
          let same : i ≡ j = cc in
          omega (arith, count_less ((half m q i d).left l) (q.left l) (half_left m q i d l) m.actions, single_few m q l (w.single l (omega arith)));
      holds = λ acts e sol f.
          let inside : (l : ℕ) → l ≤ i → l < (half m q i d).round = λ l le. let r = half_round m q i d ∙ round_is in let s = w.inside in omega arith in
          let s = held_by acts e sol (λ j z l le. let n = not_later j z in half_left m q i d l (get_or acts l 0) (f l (omega arith) (inside l (omega arith)))) in
          in_half q i d acts s (and_parts (q.left i (get_or acts i 0)) (d (get_or acts i 0)) (sym (half_own m q i d (get_or acts i 0)) ∙ f i (omega arith) (inside i (omega arith)))).1;
    }

    -- a pair for the level after the single steps may wait if the parent was split at an earlier step
    pub awaits : (held : List ℕ → Type 0) → ((acts : List ℕ) → length acts ≡ k → Solves m acts → Inside m q acts → held acts)
        → ((j : ℕ) → from ≡ Some j → j < i) → Awaits m k held (state_of m q i) (k - i)
    awaits held f earlier =
        let l = long in
        let s = w.inside in
        let leading : (rest : List ℕ) → Reaches m (state_of m q i) rest → Solves m (way ++ rest)
        = λ rest r. leads m lw q w.filtered.consistent q_anchored way short fixed rest (subst (λ (n : ℕ). Reaches m (state_of m q n) rest) (sym long) r) in
        record {
          way = way;
          long = omega arith;
          leads = leading;
          rests = λ rest e r.
              let sol = leading rest r in
              let all : length (way ++ rest) ≡ k = rw length-append (omega arith) in
              f (way ++ rest) all sol (held_by (way ++ rest) all sol (λ j z n le.
              let lt : n < length way = omega (arith, earlier j z) in
              subst (λ (a : ℕ). q.left n a ≡ true) (sym (get_or_append_left way rest 0 n lt)) (fixed n lt).there));
        }

    -- no plan inside passes a hopeless level
    no_hope : (acts : List ℕ) → length acts ≡ k → Solves m acts → Inside m q acts → (j n : ℕ) → j ≤ i → k - j ≤ n → Hopeless m (state_of m q j) n → ⊥
    no_hope acts e sol s j n le enough none =
        none (drop j acts) (omega (arith, length-drop j acts))
        (subst (λ (x : ℕ). Reaches m x (drop j acts)) (passes m lw q w.filtered.consistent q_anchored way short fixed acts s j (let l = long in omega arith)) (rest_reaches m (start_state m) acts j sol))

  pub drops_nothing : (hopeless : ℕ → ℕ → Bool) → Sound m hopeless → (P : Pairs) → Honest m P → (k : ℕ) (p : Structure) (from : Option ℕ) → OpenEnded m k p from → Dropped m (recalls P) hopeless k p
      → (acts : List ℕ) → length acts ≡ k → Solves m acts → Inside m p acts → ⊥
  drops_nothing hopeless sound P honest k p from oe (wiped_out none) acts e sol s = none (trace m acts) (trace_consistent m lw acts sol) (trace_trimmed m lw acts sol p s)
  drops_nothing hopeless sound P honest k p from oe (hopeless_at q i j w le said) acts e sol s =
      let inside = filtering p q w.filtered acts sol s in
      let bad = no_hope k p from oe q i w acts e sol inside j in
      elim (or_cases (recalls P (state_of m q j) (k - j)) (hopeless (state_of m q j) (k - j)) said) [
        | inl yes_then ↦ let r = recalled P (state_of m q j) (k - j) yes_then in bad r.left le r.enough (honest (state_of m q j) r.left r.there)
        | inr yes_then ↦ bad (k - j) le (omega arith) (sound (state_of m q j) (k - j) yes_then)
      ]

  pub found_shortest : (k : ℕ) (p : Structure) (from : Option ℕ) → OpenEnded m k p from → NoneShorter m k → (q : Structure) → Largest m p q → ((j : ℕ) → j < k → wide m q j ≡ false)
      → Shortest m (plan_from m q k 0) × (length (plan_from m q k 0) ≡ k)
  found_shortest k p from oe shorter q large single =
      let r : q.round ≡ k = round_same m p q large ∙ oe.round in
      let l = plan_long m q k 0 in (
        record {
          solves = single_plan m lw q large.consistent (left_anchored p q large oe.anchored) (plan_from m q k 0) (omega arith) (fixes m p q large k (omega arith) single);
          least = λ others s. omega (arith, shorter others s);
        },
        l,
      )
