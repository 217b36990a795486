-- The stack stays short: each part has less to spare than the one it was split off, and each pair less left than the pairs below it.
use Rattle.std.proofs.Common.{◌≡◌, ℕ, zero, suc, ◌+◌, ◌-◌, ◌*◌, ◌<◌, ◌≤◌, Bool, true, false, cond, not, eqb, ◌⊎◌, List, [], ◌∷◌, length, Some, None, Option, refl, ap, ◌∙◌, subst, inl, inr, suc-mul, arith}
use Rattle.std.proofs.lemmas.Bool.{cases_lt, cases_eq, ltb-true}
use Rattle.sets.specs.Counts.{count}
use Rattle.tasks.specs.Meaning.{Meaning}
use Rattle.filter.specs.Structures.{Structure}
use Rattle.filter.specs.Plans.{state_of}
use Rattle.search.specs.Machines.{Entry, Made}
use Rattle.search.specs.Machines.Entry.{part, pair}
use Rattle.search.specs.Steps.{first_part, put_up, over, settle, half, earlier, below_halves, split}
use Rattle.search.specs.Depths.{spare, parts, Above, Placed, Shallow, AShallowStackIsShort, ARoundThatIsPutUpIsShallow, EveryStepKeepsTheStackShallow}
use Rattle.search.proofs.Counted.{count_most, count_less}
use Rattle.search.proofs.Moves.{Proper, Widens, Move, moves}
use Rattle.search.proofs.Moves.Move.{finds, splits, drops}
use Rattle.search.proofs.Halves.{round_same, left_before, fewer_counted, all_counted, wide_many, single_few, half_round, half_left, other_count, shared}

pairs : List Entry → ℕ
pairs [] = 0
pairs (part p from ∷ es) = pairs es
pairs (pair s n ∷ es) = suc (pairs es)

both : (es : List Entry) → length es ≡ parts es + pairs es
unfolding pairs
both [] = refl
both (part p from ∷ es) = omega (arith, both es)
both (pair s n ∷ es) = omega (arith, both es)

few_parts : (A k : ℕ) (es : List Entry) → Shallow A k es → parts es ≤ k * (A - 1) + 1
few_parts A k [] s = omega arith
few_parts A k (part p from ∷ es) s = omega (arith, s.1)
few_parts A k (pair x n ∷ es) s = few_parts A k es s.3

few_pairs : (A k l : ℕ) (es : List Entry) → l ≤ k → Above l es → Shallow A k es → pairs es + l ≤ k
unfolding pairs
few_pairs A k l [] le a s = omega arith
few_pairs A k l (part p from ∷ es) le a s = few_pairs A k l es le a s.3
few_pairs A k l (pair x n ∷ es) le a s = omega (arith, a.0, few_pairs A k n es s.1 s.2 s.3)

above_none : (A k : ℕ) (es : List Entry) → Shallow A k es → Above 0 es
above_none A k [] s = tt
above_none A k (part p from ∷ es) s = above_none A k es s.3
above_none A k (pair x n ∷ es) s = (s.0, above_none A k es s.3)

pub short : AShallowStackIsShort
short A k es s = omega (arith, both es, few_parts A k es s, few_pairs A k 0 es (omega arith) (above_none A k es s) s)

-- with sets of 128 actions and rounds up to 30
above_less : (l r : ℕ) (es : List Entry) → r ≤ l → Above l es → Above r es
above_less l r [] le a = tt
above_less l r (part p from ∷ es) le a = above_less l r es le a
above_less l r (pair s n ∷ es) le a = (omega (arith, a.0), above_less l r es le a.1)

spare_most : (A : ℕ) (p : Structure) (k : ℕ) → spare A p k ≤ k * (A - 1)
spare_most A p zero = omega arith
spare_most A p (suc k) = omega (arith, count_most (p.left k) A, spare_most A p k, suc-mul k (A - 1))

spare_less : (A : ℕ) (p q : Structure) (k : ℕ) → ((i a : ℕ) → q.left i a ≡ true → p.left i a ≡ true) → spare A q k ≤ spare A p k
spare_less A p q zero h = omega arith
spare_less A p q (suc k) h = omega (arith, count_less (q.left k) (p.left k) (h k) A, spare_less A p q k h)

-- a half has one action less to spare
spare_half : (A : ℕ) (m : Meaning) → m.actions ≤ A → (q : Structure) (i : ℕ) (d : ℕ → Bool) → Proper m q i d → (k : ℕ) → i < k → spare A (half m q i d) k + 1 ≤ spare A q k
spare_half A m most q i d s zero lt = absurd (omega arith)
spare_half A m most q i d s (suc k) lt = go (λ l. spare_half A m most q i d s k l) (cases_eq k i)
  where
    go : (i < k → spare A (half m q i d) k + 1 ≤ spare A q k) → (k ≡ i) ⊎ (k ≡ i → ⊥) → (count ((half m q i d).left k) A - 1) + spare A (half m q i d) k + 1 ≤ (count (q.left k) A - 1) + spare A q k
    go ih (inl e) =
        let sh = shared m q i d s A most in
        let x : count ((half m q i d).left k) A ≡ count ((half m q i d).left i) A = ap (λ n. count ((half m q i d).left n) A) e in
        let y : count (q.left k) A ≡ count (q.left i) A = ap (λ n. count (q.left n) A) e in
        let rest = spare_less A q (half m q i d) k (half_left m q i d) in
        omega (arith, sh.one_some, sh.other_some, sh.sum)
    go ih (inr ne) = omega (arith, other_count m q i d A k ne, ih (omega (arith, ne)))

pub put_up_shallow : ARoundThatIsPutUpIsShallow
unfolding put_up first_part
put_up_shallow A m bound k = (refl, omega (arith, spare_most A (first_part m k) k), tt, tt)

settle_shallow : (A : ℕ) (m : Meaning) (bound k : ℕ) (kept : List (ℕ × ℕ)) (es : List Entry) → Shallow A k es → Shallow A (settle m bound k kept es).machine.round (settle m bound k kept es).machine.entries
unfolding settle over put_up
settle_shallow A m bound k kept [] s = go (eqb k bound)
  where
    go : (b : Bool) → Shallow A (over m bound k b).round (over m bound k b).entries
    go true = tt
    go false = put_up_shallow A m bound (k + 1)
settle_shallow A m bound k kept (part p from ∷ es) s = s
settle_shallow A m bound k kept (pair x n ∷ es) s = settle_shallow A m bound k _ es s.3

module _ (A : ℕ) (m : Meaning) (most : m.actions ≤ A) (recall hopeless : ℕ → ℕ → Bool) (bound k : ℕ) (p q : Structure) (from : Option ℕ) (rest : List Entry) (sh : Shallow A k (part p from ∷ rest)) (i : ℕ) (w : Widens m k p q i) where
  -- the parent was not split later
  pub not_later : (j : ℕ) → from ≡ Some j → j ≤ i
  not_later j e = elim (cases_lt i j) [
    | inl lt ↦ absurd (
        let narrow : (l : ℕ) → l < j → count (p.left l) A ≤ 1 = (subst (λ (o : Option ℕ). Placed A k p o rest) e sh.2).1 in
        let less = count_less (q.left i) (p.left i) (λ a x. left_before m p q w.filtered i a x) A in
        omega (arith, narrow i lt, wide_many m q i w.choice, all_counted m p q w.filtered i A most))
    | inr le ↦ le
  ]

  -- the pairs below are of earlier steps, or of this one
  lone : (es : List Entry) (l : ℕ) → Placed A k p None es → Above l es
  lone [] l x = tt
  lone (e ∷ es) l x = absurd x

  below : (o : Option ℕ) → from ≡ o → Above (k - suc i) rest
  below None e = lone rest (k - suc i) (subst (λ (o : Option ℕ). Placed A k p o rest) e sh.2)
  below (Some j) e =
      let n = not_later j e in
      above_less (k - suc j) (k - suc i) rest (omega arith) (subst (λ (o : Option ℕ). Placed A k p o rest) e sh.2).0

  earlier_below : (o : Option ℕ) → from ≡ o → earlier o i ≡ true → Above (k - i) rest
  unfolding earlier
  earlier_below None e t = lone rest (k - i) (subst (λ (o : Option ℕ). Placed A k p o rest) e sh.2)
  earlier_below (Some j) e t =
      let lt = ltb-true j i t in
      above_less (k - suc j) (k - i) rest (omega arith) (subst (λ (o : Option ℕ). Placed A k p o rest) e sh.2).0

  pub under : Shallow A k (below_halves m recall hopeless bound k from q rest i) × Above (k - suc i) (below_halves m recall hopeless bound k from q rest i) × (parts (below_halves m recall hopeless bound k from q rest i) ≡ parts rest)
  unfolding below_halves
  under = go (earlier from i) refl
    where
      s : ℕ
      s = state_of m q i

      go : (b : Bool) → earlier from i ≡ b → Shallow A k (cond b (pair s (k - i) ∷ rest) rest) × Above (k - suc i) (cond b (pair s (k - i) ∷ rest) rest) × (parts (cond b (pair s (k - i) ∷ rest) rest) ≡ parts rest)
      go true t = let lt = w.inside in ((omega arith, omega arith, earlier_below from refl t, sh.3), (omega arith, below from refl), refl)
      go false t = (sh.3, below from refl, refl)

  narrow_half : (d : ℕ → Bool) (j : ℕ) → j < i → count ((half m q i d).left j) A ≤ 1
  narrow_half d j lt = omega (arith, count_less ((half m q i d).left j) (q.left j) (half_left m q i d j) A, fewer_counted m p q w.filtered j A, single_few m q j (w.single j lt))

  split_shallow : (d : ℕ → Bool) → Proper m q i d → Shallow A k (split m recall hopeless bound k from q rest i d).machine.entries
  unfolding split
  split_shallow d s =
      let u = under in
      let not_d : ℕ → Bool = λ a. not (d a) in
      let less : spare A q k ≤ spare A p k = spare_less A p q k (λ j a e. left_before m p q w.filtered j a e) in
      let one = spare_half A m most q i d s k w.inside in
      let other = spare_less A q (half m q i not_d) k (half_left m q i not_d) in
      let rounds : q.round ≡ k = round_same m p q w.filtered ∙ sh.0 in
      let room = sh.1 in (
        half_round m q i d ∙ rounds,
        omega (arith, u.2),
        (u.1, narrow_half d),
        (half_round m q i not_d ∙ rounds, omega (arith, u.2), (u.1, narrow_half not_d), u.0),
      )

pub stays_shallow : EveryStepKeepsTheStackShallow
unfolding split
stays_shallow A m most recall hopeless S made step s = go (moves m recall hopeless S made step)
  where
    was : (p : Structure) (from : Option ℕ) (rest : List Entry) → S.entries ≡ part p from ∷ rest → Shallow A S.round (part p from ∷ rest)
    was p from rest e = subst (λ (x : List Entry). Shallow A S.round x) e s

    go : {x : Made} → Move m recall hopeless S x → Shallow A x.machine.round x.machine.entries
    go (finds p q from rest e large single) = (was p from rest e).3
    go (splits p q from rest i d e w quiet proper) = split_shallow A m most recall hopeless S.bound S.round p q from rest (was p from rest e) i w d proper
    go (drops p from rest e dropped) = settle_shallow A m S.bound S.round [] rest (was p from rest e).3
