-- What a search can still cost in steps: a part costs at most 2 × n − 1, n the product of its choices at each step, and a round
-- that is not yet put up what its first part costs. A split makes two parts whose n add up to at most that of the part; so each step costs one.
use Rattle.std.proofs.Common.{◌≡◌, ℕ, zero, suc, ◌+◌, ◌-◌, ◌*◌, ◌^◌, ◌<◌, ◌≤◌, max, Bool, true, false, cond, not, ◌&&◌, eqb, ltb, ◌⊎◌, List, [], ◌∷◌, Option, sym, refl, ap, ◌∙◌, subst, inl, inr, add-mul, mul-le-mul, mul-pos, mul-add, arith}
use native.Mathlib.Nat.{pow-zero, pow-succ'}
use Rattle.std.proofs.lemmas.Bool.{cases_lt, cases_eq, eqb-false, lt-ltb}
use Rattle.sets.specs.Counts.{count}
use Rattle.sets.proofs.Counting.{count_ext}
use Rattle.tasks.specs.Meaning.{Meaning}
use Rattle.filter.specs.Structures.{Structure}
use Rattle.filter.specs.Plans.{state_of}
use Rattle.filter.proofs.Values.{never}
use Rattle.search.specs.Machines.{Entry, Machine, Made}
use Rattle.search.specs.Machines.Entry.{part, pair}
use Rattle.search.specs.Machines.Stage.{unfinished}
use Rattle.search.specs.Steps.{first_part, put_up, over, settle, half, earlier, below_halves, split, Step}
use Rattle.search.specs.Ceiling.{branching, ceiling}
use Rattle.search.specs.Depths.{Topped}
use Rattle.search.proofs.Counted.{count_less}
use Rattle.search.proofs.Moves.{Proper, Widens, Move, moves}
use Rattle.search.proofs.Moves.Move.{finds, splits, drops}
use Rattle.search.proofs.Halves.{round_same, left_before, other_count, shared}

-- the actions left at step i, counted, but at least 1
abbrev pub choices : Meaning → Structure → ℕ → ℕ
choices m p i = max 1 (count (p.left i) m.actions)

-- the product over the first k steps
abbrev pub size : Meaning → Structure → ℕ → ℕ
size m p zero = 1
size m p (suc k) = choices m p k * size m p k

abbrev pub weight : Meaning → List Entry → ℕ
weight m [] = 0
weight m (part p from ∷ es) = (2 * size m p p.round - 1) + weight m es
weight m (pair s n ∷ es) = weight m es

-- the entries, and the rounds after this one
abbrev pub cost_left : Meaning → Machine → ℕ
cost_left m S = weight m S.entries + (ceiling m S.bound - ceiling m S.round)

module _ (m : Meaning) where
  size_some : (p : Structure) (k : ℕ) → 1 ≤ size m p k
  size_some p zero = omega arith
  size_some p (suc k) = mul-pos (let one : 1 ≤ choices m p k = omega arith in one) (size_some p k)

  size_less : (p q : Structure) (k : ℕ) → ((i a : ℕ) → q.left i a ≡ true → p.left i a ≡ true) → size m q k ≤ size m p k
  size_less p q zero h = omega arith
  size_less p q (suc k) h =
      mul-le-mul (let c = count_less (q.left k) (p.left k) (h k) m.actions in let r : choices m q k ≤ choices m p k = omega arith in r) (size_less p q k h)

  first_choices : (r i : ℕ) → i < r → count ((first_part m r).left i) m.actions ≡ count m.usable m.actions
  unfolding first_part
  first_choices r i lt = count_ext _ _ m.actions (λ a below. here (ltb i r) (ltb a m.actions) (m.usable a) (lt-ltb i r lt) (lt-ltb a m.actions below))
    where
      here : (x y z : Bool) → x ≡ true → y ≡ true → ((x && y) && z) ≡ z
      here x y z e f = rw (e, f)

  size_first : (r k : ℕ) → k ≤ r → size m (first_part m r) k ≡ branching m ^ k
  size_first r zero le = sym (pow-zero (branching m))
  size_first r (suc k) le =
      ap (λ n. max 1 n * size m (first_part m r) k) (first_choices r k (omega arith)) ∙ ap (λ n. branching m * n) (size_first r k (omega arith)) ∙ sym (pow-succ' (branching m) k)

  module _ (q : Structure) (i : ℕ) (d : ℕ → Bool) where
    other_step : (j : ℕ) → (j ≡ i → ⊥) → choices m (half m q i d) j ≡ choices m q j
    other_step j ne = ap (λ n. max 1 n) (other_count m q i d m.actions j ne)

    lower_steps : (k : ℕ) → k ≤ i → size m (half m q i d) k ≡ size m q k
    lower_steps zero le = refl
    lower_steps (suc k) le = ap (λ n. n * size m (half m q i d) k) (other_step k (λ e. omega arith)) ∙ ap (λ n. choices m q k * n) (lower_steps k (omega arith))

  module _ (q : Structure) (i : ℕ) (d : ℕ → Bool) (s : Proper m q i d) where
    abbrev one : Structure
    one = half m q i d

    abbrev other : Structure
    other = half m q i (λ a. not (d a))

    own_choices : choices m one i + choices m other i ≡ choices m q i
    own_choices = let sh = shared m q i d s m.actions (omega arith) in omega (arith, sh.one_some, sh.other_some, sh.sum)

    own_step : size m one (suc i) + size m other (suc i) ≡ size m q (suc i)
    own_step =
        let u = lower_steps q i d i (omega arith) in
        let v = lower_steps q i (λ a. not (d a)) i (omega arith) in
        rw (u, v) (sym (add-mul (choices m one i) (choices m other i) (size m q i)) ∙ ap (λ n. n * size m q i) own_choices)

    size_splits : (k : ℕ) → i < k → size m one k + size m other k ≡ size m q k
    size_splits zero lt = absurd (omega arith)
    size_splits (suc k) lt = go (λ l. size_splits k l) (cases_eq k i)
      where
        go : (i < k → size m one k + size m other k ≡ size m q k) → (k ≡ i) ⊎ (k ≡ i → ⊥) → size m one (suc k) + size m other (suc k) ≡ size m q (suc k)
        go ih (inl e) = subst (λ (x : ℕ). size m one (suc x) + size m other (suc x) ≡ size m q (suc x)) (sym e) own_step
        go ih (inr ne) =
            let below : i < k = omega (arith, ne) in
            let x = other_step q i d k ne in
            let y = other_step q i (λ a. not (d a)) k ne in
            rw (x, y) (sym (mul-add (choices m q k) (size m one k) (size m other k)) ∙ ap (λ n. choices m q k * n) (ih below))

  ceiling_more : (a b : ℕ) → a ≤ b → ceiling m a ≤ ceiling m b
  ceiling_more a zero le = let e : a ≡ 0 = omega arith in rw e (omega arith)
  ceiling_more a (suc b) le = go (λ l. ceiling_more a b l) (cases_lt a (suc b))
    where
      go : (a ≤ b → ceiling m a ≤ ceiling m b) → (a < suc b) ⊎ (suc b ≤ a) → ceiling m a ≤ (2 * branching m ^ suc b - 1) + ceiling m b
      go ih (inl l) = omega (arith, ih (omega arith))
      go ih (inr l) = let e : a ≡ suc b = omega arith in rw e (omega arith)

  put_up_weight : (bound k : ℕ) → weight m (put_up m bound k).entries ≡ 2 * branching m ^ k - 1
  unfolding put_up first_part
  put_up_weight bound k = omega (arith, size_first k k (omega arith))

  -- a round that is put up after the rounds below it costs, with the later ones, at most the ceiling less theirs
  pub put_up_costs : (bound k : ℕ) → suc k ≤ bound → cost_left m (put_up m bound (suc k)) + ceiling m k ≤ ceiling m bound
  unfolding put_up
  put_up_costs bound k le = omega (arith, put_up_weight bound (suc k), ceiling_more (suc k) bound le)

  pub opening_costs : (bound : ℕ) → cost_left m (put_up m bound 0) ≤ ceiling m bound
  unfolding put_up
  opening_costs bound = omega (arith, put_up_weight bound 0, ceiling_more 0 bound (omega arith))

  pub unfinished_costs : (S : Machine) → Topped S.entries → 1 ≤ cost_left m S
  unfinished_costs S t = go S.entries refl t
    where
      go : (es : List Entry) → S.entries ≡ es → Topped es → 1 ≤ cost_left m S
      go [] e t = absurd t
      go (pair s n ∷ es) e t = absurd t
      go (part p from ∷ es) e t = omega (arith, ap (λ x. weight m x) e, size_some p p.round)

  settle_costs : (bound k : ℕ) (kept : List (ℕ × ℕ)) (es : List Entry) → k ≤ bound → (settle m bound k kept es).machine.stage ≡ unfinished
      → cost_left m (settle m bound k kept es).machine ≤ weight m es + (ceiling m bound - ceiling m k)
  unfolding settle over
  settle_costs bound k kept [] le u = go (eqb k bound) refl u
    where
      go : (b : Bool) → eqb k bound ≡ b → (over m bound k b).stage ≡ unfinished → cost_left m (over m bound k b) ≤ 0 + (ceiling m bound - ceiling m k)
      go true e u = never cc
      go false e u =
          let ne = eqb-false k bound e in
          let lt : suc k ≤ bound = omega (arith, ne) in
          let same : cost_left m (put_up m bound (k + 1)) ≡ cost_left m (put_up m bound (suc k)) = ap (λ n. cost_left m (put_up m bound n)) (let s : k + 1 ≡ suc k = omega arith in s) in
          omega (arith, put_up_costs bound k lt)
  settle_costs bound k kept (part p from ∷ es) le u = omega arith
  settle_costs bound k kept (pair s n ∷ es) le u = settle_costs bound k _ es le u

  below_weight : (recall hopeless : ℕ → ℕ → Bool) (bound k : ℕ) (from : Option ℕ) (q : Structure) (rest : List Entry) (i : ℕ) → weight m (below_halves m recall hopeless bound k from q rest i) ≡ weight m rest
  unfolding below_halves
  below_weight recall hopeless bound k from q rest i = go (earlier from i)
    where
      go : (b : Bool) → weight m (cond b (pair (state_of m q i) (k - i) ∷ rest) rest) ≡ weight m rest
      go true = refl
      go false = refl

  split_costs : (recall hopeless : ℕ → ℕ → Bool) (bound k : ℕ) (p q : Structure) (from : Option ℕ) (rest : List Entry) (i : ℕ) (d : ℕ → Bool) → p.round ≡ k → Widens m k p q i → Proper m q i d
      → weight m (split m recall hopeless bound k from q rest i d).machine.entries + 1 ≤ weight m (part p from ∷ rest)
  unfolding split half
  split_costs recall hopeless bound k p q from rest i d is w s =
      let same : q.round ≡ p.round = round_same m p q w.filtered in
      let inside : i < p.round = subst (λ (n : ℕ). i < n) (sym is) w.inside in
      let sum = size_splits q i d s p.round inside in
      let x = size_some (one q i d s) p.round in
      let y = size_some (other q i d s) p.round in
      let less = size_less p q p.round (λ j a e. left_before m p q w.filtered j a e) in
      let ex : size m (one q i d s) q.round ≡ size m (one q i d s) p.round = ap (λ n. size m (one q i d s) n) same in
      let ey : size m (other q i d s) q.round ≡ size m (other q i d s) p.round = ap (λ n. size m (other q i d s) n) same in
      omega (arith, below_weight recall hopeless bound k from q rest i)

-- parts of other rounds than the search's do not occur; so each step costs one
pub costs_one : (m : Meaning) (recall hopeless : ℕ → ℕ → Bool) (S : Machine) (made : Made) → ((p : Structure) (from : Option ℕ) (rest : List Entry) → S.entries ≡ part p from ∷ rest → p.round ≡ S.round)
    → S.round ≤ S.bound → Step m recall hopeless S made → made.machine.stage ≡ unfinished → cost_left m made.machine + 1 ≤ cost_left m S
unfolding split
costs_one m recall hopeless S made rounds le step = go (moves m recall hopeless S made step)
  where
    go : {x : Made} → Move m recall hopeless S x → x.machine.stage ≡ unfinished → cost_left m x.machine + 1 ≤ cost_left m S
    go (finds p q from rest e large single) u = never cc
    go (splits p q from rest i d e w quiet proper) u =
        omega (arith, ap (λ x. weight m x) e, split_costs m recall hopeless S.bound S.round p q from rest i d (rounds p from rest e) w proper)
    go (drops p from rest e dropped) u =
        omega (arith, ap (λ x. weight m x) e, size_some m p p.round, settle_costs m S.bound S.round [] rest le u)
