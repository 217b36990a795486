-- Sets of numbers by how many they have: a member for a count, a smaller count for a smaller set, and a set taken apart.
use Rattle.std.proofs.Common.{◌≡◌, ℕ, zero, suc, ◌+◌, ◌<◌, ◌≤◌, Bool, true, false, cond, not, ◌&&◌, eqb, ◌⊎◌, sym, refl, ap, ◌∙◌, inl, inr, arith}
use Rattle.std.proofs.lemmas.Bool.{cases_lt, cases_eq, cases_Bool, and_parts, and_from, not-true, ne_eqb}
use Rattle.sets.specs.Counts.{count}
use Rattle.sets.proofs.Counting.{count_drop}

-- cond b 1 0 is at most 1
one : (b : Bool) → cond b 1 0 ≤ 1
one true = omega arith
one false = omega arith

pub count_most : (g : ℕ → Bool) (n : ℕ) → count g n ≤ n
unfolding count
count_most g zero = omega arith
count_most g (suc n) = omega (arith, one (g n), count_most g n)

one_less : (x y : Bool) → (x ≡ true → y ≡ true) → cond x 1 0 ≤ cond y 1 0
one_less true y h = rw (h refl) (omega arith)
one_less false y h = omega arith

pub count_less : (f g : ℕ → Bool) → ((a : ℕ) → f a ≡ true → g a ≡ true) → (n : ℕ) → count f n ≤ count g n
unfolding count
count_less f g h zero = omega arith
count_less f g h (suc n) = omega (arith, one_less (f n) (g n) (h n), count_less f g h n)

pub count_some : (g : ℕ → Bool) (a n : ℕ) → a < n → g a ≡ true → 1 ≤ count g n
unfolding count
count_some g a zero lt e = absurd (omega arith)
count_some g a (suc n) lt e = go (λ l. count_some g a n l e) (cases_lt a n)
  where
    go : (a < n → 1 ≤ count g n) → (a < n) ⊎ (n ≤ a) → 1 ≤ cond (g n) 1 0 + count g n
    go ih (inl l) = omega (arith, ih l)
    go ih (inr l) = let same : a ≡ n = omega arith in omega (arith, ap (λ b. cond {A = ℕ} b 1 0) (sym (ap g same) ∙ e))

one_splits : (g d : Bool) → cond (g && d) 1 0 + cond (g && not d) 1 0 ≡ cond g 1 0
one_splits true true = refl
one_splits true false = refl
one_splits false true = refl
one_splits false false = refl

pub count_splits : (g d : ℕ → Bool) (n : ℕ) → count (λ a. g a && d a) n + count (λ a. g a && not (d a)) n ≡ count g n
unfolding count
count_splits g d zero = refl
count_splits g d (suc n) = omega (arith, one_splits (g n) (d n), count_splits g d n)

-- numbers past n that are not in the set do not count
pub count_more : (g : ℕ → Bool) (n k : ℕ) → ((a : ℕ) → g a ≡ true → a < n) → count g k ≤ count g n
unfolding count
count_more g n zero h = omega arith
count_more g n (suc k) h = go (λ l. count_more g n k h) (cases_lt k n)
  where
    grows : (j : ℕ) → j < n → count g (suc j) ≤ count g n
    grows j lt = steps n (omega arith)
      where
        steps : (r : ℕ) → suc j ≤ r → count g (suc j) ≤ count g r
        steps zero le = absurd (omega arith)
        steps (suc r) le = turn (λ l. steps r l) (cases_lt (suc j) (suc r))
          where
            turn : (suc j ≤ r → count g (suc j) ≤ count g r) → (suc j < suc r) ⊎ (suc r ≤ suc j) → count g (suc j) ≤ count g (suc r)
            turn ih (inl l) = omega (arith, ih (omega arith))
            turn ih (inr l) = let same : r ≡ j = omega arith in rw same (omega arith)

    go : (Unit {0} → count g k ≤ count g n) → (k < n) ⊎ (n ≤ k) → cond (g k) 1 0 + count g k ≤ count g n
    go ih (inl l) = grows k l
    go ih (inr l) = elim (cases_Bool (g k)) [
      | inl e ↦ absurd (let b = h k e in omega arith)
      | inr e ↦ let z : ◌≡◌ {A = ℕ} (cond (g k) 1 0) 0 = rw e in omega (arith, ih tt)
    ]

pub count_member : (g : ℕ → Bool) (n : ℕ) → 1 ≤ count g n → (a : ℕ) × (a < n) × (g a ≡ true)
unfolding count
count_member g zero h = absurd (omega arith)
count_member g (suc n) h = go (count_member g n) (cases_Bool (g n))
  where
    go : (1 ≤ count g n → (a : ℕ) × (a < n) × (g a ≡ true)) → (g n ≡ true) ⊎ (g n ≡ false) → (a : ℕ) × (a < suc n) × (g a ≡ true)
    go ih (inl e) = (n, omega arith, e)
    go ih (inr e) =
        let z : ◌≡◌ {A = ℕ} (cond (g n) 1 0) 0 = rw e in
        let w = ih (omega arith) in
        (w.0, omega (arith, w.1), w.2)

-- beside one member of a set of two or more there is another
pub count_other : (g : ℕ → Bool) (n a : ℕ) → a < n → g a ≡ true → 1 < count g n → (b : ℕ) × (b < n) × (g b ≡ true) × (eqb b a ≡ false)
count_other g n a lt e h =
    let w = count_member (λ b. g b && not (eqb b a)) n (omega (arith, count_drop g n a lt e)) in
    let both = and_parts (g w.0) (not (eqb w.0 a)) w.2 in
    (w.0, w.1, both.0, not-true (eqb w.0 a) both.1)

-- two members of a set of at most one are the same
pub count_one : (g : ℕ → Bool) (n a b : ℕ) → count g n ≤ 1 → a < n → b < n → g a ≡ true → g b ≡ true → a ≡ b
count_one g n a b le la lb ea eb = elim (cases_eq a b) [
  | inl e ↦ e
  | inr ne ↦ absurd (
      let s = count_drop g n a la ea in
      let o = count_some (λ c. g c && not (eqb c a)) b n lb (and_from (g b) (not (eqb b a)) eb (ap not (ne_eqb b a (λ e. ne (sym e))))) in
      omega arith)
]
