-- What the filter leaves of a part has no more than the part; a half has no more than what was split, and less at the step of the split.
use Rattle.std.proofs.Common.{◌≡◌, ℕ, ◌+◌, ◌<◌, ◌≤◌, Bool, true, false, cond, not, ◌&&◌, eqb, ltb, sym, refl, ap, ◌∙◌, subst, arith}
use Rattle.std.proofs.lemmas.Bool.{and_parts, and_from, eq-eqb, ne_eqb, ltb-true, ltb-false}
use Rattle.sets.specs.Counts.{count}
use Rattle.sets.proofs.Counting.{count_ext}
use Rattle.tasks.specs.Meaning.{Meaning}
use Rattle.filter.specs.Structures.{Structure}
use Rattle.filter.specs.Filtering.{Largest}
use Rattle.search.specs.Steps.{wide, half}
use Rattle.search.proofs.Counted.{count_some, count_splits, count_more}
use Rattle.search.proofs.Moves.{Proper}

pub round_same : (m : Meaning) (p q : Structure) → Largest m p q → q.round ≡ p.round
round_same m p q large = large.below.round

module _ (m : Meaning) (p q : Structure) (large : Largest m p q) (i a : ℕ) (e : q.left i a ≡ true) where
  trims : ((ltb i q.round && ltb a m.actions) && q.left i a) ≡ true
  trims = sym (ap (λ (x : Structure). x.left i a) large.trim) ∙ e

  numbers : (ltb i q.round ≡ true) × (ltb a m.actions ≡ true)
  numbers = and_parts (ltb i q.round) (ltb a m.actions) (and_parts (ltb i q.round && ltb a m.actions) (q.left i a) trims).0

  pub step_inside : i < q.round
  step_inside = ltb-true i q.round numbers.0

  pub action_inside : a < m.actions
  action_inside = ltb-true a m.actions numbers.1

  pub left_before : p.left i a ≡ true
  left_before =
      let lt : i < p.round = subst (λ (n : ℕ). i < n) (round_same m p q large) step_inside in
      (and_parts (ltb i p.round && ltb a m.actions) (p.left i a) (large.below.left i a lt e)).1

-- the count at a step is that of the task's actions, however many more are counted
pub fewer_counted : (m : Meaning) (p q : Structure) → Largest m p q → (i n : ℕ) → count (q.left i) n ≤ count (q.left i) m.actions
fewer_counted m p q large i n = count_more (q.left i) m.actions n (λ a e. action_inside m p q large i a e)

pub all_counted : (m : Meaning) (p q : Structure) → Largest m p q → (i n : ℕ) → m.actions ≤ n → count (q.left i) m.actions ≤ count (q.left i) n
all_counted m p q large i n le = count_more (q.left i) n m.actions (λ a e. let lt = action_inside m p q large i a e in omega arith)

pub wide_many : (m : Meaning) (q : Structure) (i : ℕ) → wide m q i ≡ true → 1 < count (q.left i) m.actions
unfolding wide
wide_many m q i e = ltb-true 1 (count (q.left i) m.actions) e

pub single_few : (m : Meaning) (q : Structure) (i : ℕ) → wide m q i ≡ false → count (q.left i) m.actions ≤ 1
unfolding wide
single_few m q i e = ltb-false 1 (count (q.left i) m.actions) e

in_cond : (b x y : Bool) → cond b (x && y) x ≡ true → x ≡ true
in_cond true x y e = (and_parts x y e).0
in_cond false x y e = e

own_cond : (b x y : Bool) → b ≡ true → cond b (x && y) x ≡ (x && y)
own_cond b x y e = rw e

other_cond : (b x y : Bool) → b ≡ false → cond b (x && y) x ≡ x
other_cond b x y e = rw e

module _ (m : Meaning) (q : Structure) (i : ℕ) (d : ℕ → Bool) where
  pub half_round : (half m q i d).round ≡ q.round
  unfolding half
  half_round = refl

  pub half_left : (j a : ℕ) → (half m q i d).left j a ≡ true → q.left j a ≡ true
  unfolding half
  half_left j a e = in_cond (eqb j i) (q.left j a) (d a) e

  pub half_own : (a : ℕ) → (half m q i d).left i a ≡ (q.left i a && d a)
  unfolding half
  half_own a = own_cond (eqb i i) (q.left i a) (d a) (eq-eqb i i refl)

  pub half_other : (j a : ℕ) → (j ≡ i → ⊥) → (half m q i d).left j a ≡ q.left j a
  unfolding half
  half_other j a ne = other_cond (eqb j i) (q.left j a) (d a) (ne_eqb j i ne)

  pub half_possible : (j f : ℕ) (v : Bool) → (half m q i d).possible j f v ≡ q.possible j f v
  unfolding half
  half_possible j f v = refl

  pub other_count : (n j : ℕ) → (j ≡ i → ⊥) → count ((half m q i d).left j) n ≡ count (q.left j) n
  other_count n j ne = count_ext _ _ n (λ a lt. half_other j a ne)

  pub own_count : (n : ℕ) → count ((half m q i d).left i) n ≡ count (λ a. q.left i a && d a) n
  own_count n = count_ext _ _ n (λ a lt. half_own a)

-- both halves have actions at the step of the split, and together those of what was split
pub record Shared (one other all : ℕ) : Type 0 where
  pub one_some : 1 ≤ one
  pub other_some : 1 ≤ other
  pub sum : one + other ≡ all

pub shared : (m : Meaning) (q : Structure) (i : ℕ) (d : ℕ → Bool) → Proper m q i d → (n : ℕ) → m.actions ≤ n
    → Shared (count ((half m q i d).left i) n) (count ((half m q i (λ a. not (d a))).left i) n) (count (q.left i) n)
shared m q i d s n le =
    let x = own_count m q i d n in
    let y = own_count m q i (λ a. not (d a)) n in
    let z = count_splits (q.left i) d n in
    let lx = s.some.1 in
    let ly = s.others.1 in
    let u = count_some (λ a. q.left i a && d a) s.some.0 n (omega arith) (and_from _ _ s.some.2 s.some.3) in
    let v = count_some (λ a. q.left i a && not (d a)) s.others.0 n (omega arith) (and_from _ _ s.others.2 (ap not s.others.3)) in
    record { one_some = omega arith; other_some = omega arith; sum = omega arith }
