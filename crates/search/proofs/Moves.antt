-- What a step does, case by case: the newest part is found to be a plan, or split into two halves of which none is empty, or dropped.
use Rattle.std.proofs.Common.{◌≡◌, ℕ, zero, suc, ◌+◌, ◌-◌, ◌<◌, ◌≤◌, Bool, true, false, cond, not, ◌&&◌, ◌||◌, eqb, ltb, List, [], ◌∷◌, Some, None, Option, sym, refl, ◌∙◌, subst, arith}
use Rattle.std.proofs.lemmas.Bool.{false≢true, true≢false, eqb-true, eqb-false, ltb-true, eq-eqb, and_parts}
use Rattle.sets.specs.Counts.{count}
use Rattle.sets.specs.Signs.{says}
use Rattle.tasks.specs.Meaning.{Meaning}
use Rattle.filter.specs.Structures.{Structure, Below, trimmed}
use Rattle.filter.specs.Filtering.{Consistent, Largest, Filtered}
use Rattle.filter.specs.Filtering.Filtered.{kept, wiped}
use Rattle.filter.specs.Plans.{state_of}
use Rattle.filter.proofs.Values.{never}
use Rattle.search.specs.Machines.{Entry, Machine, Made}
use Rattle.search.specs.Machines.Entry.{part}
use Rattle.search.specs.Machines.Stage.{found}
use Rattle.search.specs.Steps.{settle, lowest, some_below, wide, plan_from, falsifies, distance, better, best_below, first_half, told, split, asked, looked, next, Step}
use Rattle.search.proofs.Counted.{count_member, count_other}
use Rattle.search.proofs.Lowest.{below_lowest, lowest_within, lowest_passes, lowest_member, some_witness, some_not}

module _ (m : Meaning) (q : Structure) (i : ℕ) where
  -- d takes the actions left at step i apart, and leaves some on either side
  pub record Proper (d : ℕ → Bool) : Type 0 where
    pub some : (a : ℕ) × (a < m.actions) × (q.left i a ≡ true) × (d a ≡ true)
    pub others : (a : ℕ) × (a < m.actions) × (q.left i a ≡ true) × (d a ≡ false)

-- q is what the filter left of p, and step i is the first of k steps with a choice
pub record Widens (m : Meaning) (k : ℕ) (p q : Structure) (i : ℕ) : Type 0 where
  pub filtered : Largest m p q
  pub inside : i < k
  pub choice : wide m q i ≡ true
  pub single : (j : ℕ) → j < i → wide m q j ≡ false

module _ (m : Meaning) (recall hopeless : ℕ → ℕ → Bool) where
  -- memory or estimator say of the state at level j, or do not, that it is hopeless
  abbrev pub Said : ℕ → Structure → ℕ → Bool → Type 0
  Said k q j b = (recall (state_of m q j) (k - j) || hopeless (state_of m q j) (k - j)) ≡ b

  pub data Dropped (k : ℕ) (p : Structure) : Type 0 where
    wiped_out : ((x : Structure) → Consistent m x → Below x (trimmed m p) → ⊥) → Dropped k p
    hopeless_at : (q : Structure) (i j : ℕ) → Widens m k p q i → j ≤ i → Said k q j true → Dropped k p

  pub data Move (S : Machine) : Made → Type 0 where
    finds : (p q : Structure) (from : Option ℕ) (rest : List Entry) → S.entries ≡ part p from ∷ rest → Largest m p q → ((j : ℕ) → j < S.round → wide m q j ≡ false)
        → Move S (record { machine = record { stage = found (plan_from m q S.round 0); bound = S.bound; round = S.round; entries = rest }; keeps = [] })
    splits : (p q : Structure) (from : Option ℕ) (rest : List Entry) (i : ℕ) (d : ℕ → Bool) → S.entries ≡ part p from ∷ rest → Widens m S.round p q i
        → ((j : ℕ) → j ≤ i → Said S.round q j false) → Proper m q i d → Move S (split m recall hopeless S.bound S.round from q rest i d)
    drops : (p : Structure) (from : Option ℕ) (rest : List Entry) → S.entries ≡ part p from ∷ rest → Dropped S.round p → Move S (settle m S.bound S.round [] rest)

-- a fact that qualifies leaves actions on either side
cond_some : (b : Bool) (x : Option ℕ) (n : ℕ) → cond b x None ≡ Some n → b ≡ true
cond_some true x n e = refl
cond_some false x n e = never cc

not_falsified : (x y : Bool) → (x && not y) ≡ true → (x ≡ true) × ((x && y) ≡ false)
not_falsified true true e = absurd (false≢true e)
not_falsified true false e = (refl, refl)
not_falsified false y e = absurd (false≢true e)

module _ (m : Meaning) (q : Structure) (i : ℕ) where
  qualifies : (f n : ℕ) → distance m q i f ≡ Some n → Proper m q i (falsifies m q i f)
  unfolding distance falsifies
  qualifies f n e =
      let c = (and_parts (q.possible (i + 1) f true && q.possible (i + 1) f false) _ (cond_some _ _ n e)).1 in
      let d = count (falsifies m q i f) m.actions in
      let r = count (λ a. q.left i a && not (says (m.makes a f) false)) m.actions in
      let both = and_parts (ltb 0 d) (ltb 0 r) c in
      let x = count_member (falsifies m q i f) m.actions (ltb-true 0 d both.0) in
      let y = count_member (λ a. q.left i a && not (says (m.makes a f) false)) m.actions (ltb-true 0 r both.1) in
      let z = not_falsified (q.left i y.0) (says (m.makes y.0 f) false) y.2 in
      record {
        some = (x.0, x.1, (and_parts (q.left i x.0) (says (m.makes x.0 f) false) x.2).0, x.2);
        others = (y.0, y.1, z.0, z.1);
      }

  -- the fact that decides qualifies
  decides : (n : ℕ) (b : ℕ × ℕ) → best_below m q i n ≡ Some b → distance m q i b.1 ≡ Some b.0
  unfolding best_below better
  decides zero b e = never cc
  decides (suc f) b e = go (decides f b) (distance m q i f) refl (best_below m q i f) refl e
    where
      pick : (c : Bool) (d : ℕ) (was : ℕ × ℕ) → distance m q i f ≡ Some d → (◌≡◌ {A = Option (ℕ × ℕ)} (Some was) (Some b) → distance m q i b.1 ≡ Some b.0)
          → cond c (Some (d, f)) (Some was) ≡ Some b → distance m q i b.1 ≡ Some b.0
      pick true d was z ih e = let same : ◌≡◌ {A = ℕ × ℕ} (d, f) b = cc in subst (λ (x : ℕ × ℕ). distance m q i x.1 ≡ Some x.0) same z
      pick false d was z ih e = ih e

      go : (best_below m q i f ≡ Some b → distance m q i b.1 ≡ Some b.0) → (x : Option ℕ) → distance m q i f ≡ x → (y : Option (ℕ × ℕ)) → best_below m q i f ≡ y
          → better m q f x y ≡ Some b → distance m q i b.1 ≡ Some b.0
      go ih None z y w e = ih (w ∙ e)
      go ih (Some d) z None w e = let same : ◌≡◌ {A = ℕ × ℕ} (d, f) b = cc in subst (λ (x : ℕ × ℕ). distance m q i x.1 ≡ Some x.0) same z
      go ih (Some d) z (Some was) w e = pick (ltb d was.0) d was z (λ s. ih (w ∙ s)) e

  -- so neither half is empty
  proper : wide m q i ≡ true → (best : Option (ℕ × ℕ)) → best_below m q i m.facts ≡ best → Proper m q i (first_half m q i best)
  unfolding first_half wide
  proper w None e =
      let many = ltb-true 1 (count (q.left i) m.actions) w in
      let x = count_member (q.left i) m.actions (omega arith) in
      let l = lowest_member m.actions (q.left i) x.0 x.1 x.2 in
      let o = count_other (q.left i) m.actions (lowest m.actions (q.left i)) l.0 l.1 many in
      record { some = (lowest m.actions (q.left i), l.0, l.1, eq-eqb _ _ refl); others = (o.0, o.1, o.2, o.3) }
  proper w (Some b) e = qualifies b.1 b.0 (decides m.facts b e)

pub moves : (m : Meaning) (recall hopeless : ℕ → ℕ → Bool) (S : Machine) (made : Made) → Step m recall hopeless S made → Move m recall hopeless S made
unfolding next looked asked told
moves m recall hopeless S made s = subst (λ (x : Made). Move m recall hopeless S x) (sym s.does) (go s.stands s.filtered)
  where
    p : Structure
    p = s.top

    q : Structure
    q = s.result

    from : Option ℕ
    from = s.from

    rest : List Entry
    rest = s.rest

    k : ℕ
    k = S.round

    ask : Largest m p q → (i : ℕ) → i < k → wide m q i ≡ true → ((l : ℕ) → l < i → wide m q l ≡ false) → (b : Bool) → some_below (i + 1) (told m recall hopeless S.bound k from q rest) ≡ b
        → Move m recall hopeless S (asked m recall hopeless S.bound k from q rest i b)
    ask large i lt w single true e =
        let v = some_witness (i + 1) (told m recall hopeless S.bound k from q rest) e in
        drops p from rest s.entries (hopeless_at q i v.0 (record { filtered = large; inside = lt; choice = w; single = single }) (omega (arith, v.1)) v.2)
    ask large i lt w single false e =
        splits p q from rest i (first_half m q i (best_below m q i m.facts)) s.entries (record { filtered = large; inside = lt; choice = w; single = single })
        (λ j le. some_not (i + 1) (told m recall hopeless S.bound k from q rest) e j (omega arith)) (proper m q i w (best_below m q i m.facts) refl)

    look : Largest m p q → (i : ℕ) → i ≤ k → (i < k → wide m q i ≡ true) → ((l : ℕ) → l < i → wide m q l ≡ false) → (b : Bool) → eqb i k ≡ b
        → Move m recall hopeless S (looked m recall hopeless S.bound k from q rest b i)
    look large i le w single true e = finds p q from rest s.entries large (λ j lt. single j (let same : i ≡ k = eqb-true i k e in omega arith))
    look large i le w single false e =
        let ne = eqb-false i k e in
        let lt : i < k = omega (arith, ne) in
        ask large i lt (w lt) single (some_below (i + 1) (told m recall hopeless S.bound k from q rest)) refl

    go : (b : Bool) → Filtered m p b q → Move m recall hopeless S (next m recall hopeless S.bound k from q rest b)
    go true (kept e large) =
        let i = lowest k (wide m q) in
        look large i (lowest_within k (wide m q)) (lowest_passes k (wide m q)) (below_lowest k (wide m q)) (eqb i k) refl
    go true (wiped e none z) = absurd (true≢false e)
    go false (kept e large) = absurd (false≢true e)
    go false (wiped e none z) = drops p from rest s.entries (wiped_out none)
