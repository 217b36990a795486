-- The parts and pairs of later steps stand above those of earlier ones: a part is never split before its parent.
use Rattle.std.proofs.Common.{◌≡◌, ℕ, ◌+◌, ◌-◌, ◌<◌, ◌≤◌, Bool, true, false, cond, ◌&&◌, eqb, ltb, leb, List, [], ◌∷◌, Some, None, Option, sym, refl, subst, arith}
use Rattle.std.proofs.lemmas.Bool.{and_parts, ltb-true}
use Rattle.tasks.specs.Meaning.{Meaning, Lawful}
use Rattle.filter.specs.Structures.{Structure}
use Rattle.filter.specs.Filtering.{Largest}
use Rattle.filter.specs.Plans.{state_of}
use Rattle.filter.proofs.Values.{never}
use Rattle.search.specs.Machines.{Entry, Made}
use Rattle.search.specs.Machines.Entry.{part, pair}
use Rattle.search.specs.Steps.{first_part, put_up, over, settle, half, earlier, below_halves, split}
use Rattle.search.specs.Depths.{Placed, Shallow}
use Rattle.search.specs.Skips.{BeginsInOneState, By, AllBy, LessLeft, AllMoreLeft, Newest, Ordered, ARoundThatIsPutUpIsOrdered, EveryStepKeepsTheOrder}
use Rattle.search.proofs.Moves.{Widens, Move, moves}
use Rattle.search.proofs.Moves.Move.{finds, splits, drops}
use Rattle.search.proofs.Parting.{first_anchored}
use Rattle.search.proofs.Deepening.{not_later}

by_more : (i j : ℕ) (es : List Entry) → i ≤ j → AllBy i es → AllBy j es
by_more i j [] le x = tt
by_more i j (part p from ∷ es) le x = (more from x.0, by_more i j es le x.1)
  where
    more : (o : Option ℕ) → By i o → By j o
    more None y = tt
    more (Some l) y = omega arith
by_more i j (pair s n ∷ es) le x = by_more i j es le x

more_left : (k n j : ℕ) (es : List Entry) → n + j < k → AllBy j es → AllMoreLeft k n es
more_left k n j [] lt x = tt
more_left k n j (part p from ∷ es) lt x = (less from x.0, more_left k n j es lt x.1)
  where
    less : (o : Option ℕ) → By j o → LessLeft k n o
    less None y = tt
    less (Some l) y = omega arith
more_left k n j (pair s r ∷ es) lt x = more_left k n j es lt x

first_one : (m : Meaning) → Lawful m → (k : ℕ) → BeginsInOneState (first_part m k)
unfolding first_part
first_one m lw k f x y =
    let lt = first_fact m k f true x in
    let p = (first_anchored m lw k).start f true lt x in
    let q = (first_anchored m lw k).start f false lt y in
    never cc
  where
    first_fact : (m : Meaning) (k f : ℕ) (v : Bool) → (first_part m k).possible 0 f v ≡ true → f < m.facts
    first_fact m k f v e = ltb-true f m.facts (and_parts (leb 0 k) (ltb f m.facts) (and_parts (leb 0 k && ltb f m.facts) _ e).0).1

pub put_up_ordered : ARoundThatIsPutUpIsOrdered
unfolding put_up
put_up_ordered m lw bound k = (tt, first_one m lw k, tt)

pub filtered_one : (m : Meaning) (p q : Structure) → Largest m p q → BeginsInOneState p → BeginsInOneState q
filtered_one m p q large b f x y =
    let down : (v : Bool) → q.possible 0 f v ≡ true → p.possible 0 f v ≡ true = λ v e. (and_parts (leb 0 p.round && ltb f m.facts) _ (large.below.possible 0 f v (omega arith) e)).1 in
    b f (down true x) (down false y)

module _ (A : ℕ) (m : Meaning) (most : m.actions ≤ A) (recall hopeless : ℕ → ℕ → Bool) (bound k : ℕ) (p q : Structure) (from : Option ℕ) (rest : List Entry) (sh : Shallow A k (part p from ∷ rest)) (i : ℕ) (w : Widens m k p q i) (od : Ordered k (part p from ∷ rest)) where
  lone : (es : List Entry) → Placed A k p None es → es ≡ []
  lone [] x = refl
  lone (e ∷ es) x = absurd x

  here : (o : Option ℕ) → from ≡ o → AllBy i rest
  here None e = subst (λ (x : List Entry). AllBy i x) (sym (lone rest (subst (λ (o : Option ℕ). Placed A k p o rest) e sh.2))) tt
  here (Some j) e = by_more j i rest (not_later A m most recall hopeless bound k p q from rest sh i w j e) (subst (λ (o : Option ℕ). Newest o rest) e od.0)

  less : (o : Option ℕ) → from ≡ o → earlier o i ≡ true → AllMoreLeft k (k - i) rest
  unfolding earlier
  less None e t = subst (λ (x : List Entry). AllMoreLeft k (k - i) x) (sym (lone rest (subst (λ (o : Option ℕ). Placed A k p o rest) e sh.2))) tt
  less (Some j) e t = let lt = ltb-true j i t in let s = w.inside in more_left k (k - i) j rest (omega arith) (subst (λ (o : Option ℕ). Newest o rest) e od.0)

  under : Ordered k (below_halves m recall hopeless bound k from q rest i) × AllBy i (below_halves m recall hopeless bound k from q rest i)
  unfolding below_halves
  under = go (earlier from i) refl
    where
      below : Bool → List Entry
      below b = cond b (pair (state_of m q i) (k - i) ∷ rest) rest

      go : (b : Bool) → earlier from i ≡ b → Ordered k (below b) × AllBy i (below b)
      go true t = ((less from refl t, od.2), here from refl)
      go false t = (od.2, here from refl)

  split_ordered : (d : ℕ → Bool) → Ordered k (split m recall hopeless bound k from q rest i d).machine.entries
  unfolding split half
  split_ordered d =
      let u = under in
      let b = filtered_one m p q w.filtered od.1 in
      ((omega arith, u.1), b, (u.1, b, u.0))

settle_ordered : (m : Meaning) → Lawful m → (bound k : ℕ) (kept : List (ℕ × ℕ)) (es : List Entry) → Ordered k es → Ordered (settle m bound k kept es).machine.round (settle m bound k kept es).machine.entries
unfolding settle over put_up
settle_ordered m lw bound k kept [] s = go (eqb k bound)
  where
    go : (b : Bool) → Ordered (over m bound k b).round (over m bound k b).entries
    go true = tt
    go false = put_up_ordered m lw bound (k + 1)
settle_ordered m lw bound k kept (part p from ∷ es) s = s
settle_ordered m lw bound k kept (pair x n ∷ es) s = settle_ordered m lw bound k _ es s.1

pub stays_ordered : EveryStepKeepsTheOrder
unfolding split
stays_ordered A m lw most recall hopeless S made step s od = go (moves m recall hopeless S made step)
  where
    was : (p : Structure) (from : Option ℕ) (rest : List Entry) → S.entries ≡ part p from ∷ rest → Ordered S.round (part p from ∷ rest)
    was p from rest e = subst (λ (x : List Entry). Ordered S.round x) e od

    go : {x : Made} → Move m recall hopeless S x → Ordered x.machine.round x.machine.entries
    go (finds p q from rest e large single) = (was p from rest e).2
    go (splits p q from rest i d e w quiet proper) =
        split_ordered A m most recall hopeless S.bound S.round p q from rest (subst (λ (x : List Entry). Shallow A S.round x) e s) i w (was p from rest e) d
    go (drops p from rest e dropped) = settle_ordered m lw S.bound S.round [] rest (was p from rest e).2
