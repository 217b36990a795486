-- The lowest number that passes a test, and whether some number does.
use Rattle.std.proofs.Common.{◌≡◌, ℕ, zero, suc, ◌+◌, ◌<◌, ◌≤◌, Bool, true, false, cond, ◌⊎◌, length, MatchBool, sym, refl, ap, ◌∙◌, subst, inl, inr, arith}
use Rattle.std.specs.List.{AllWithin, HoldsAt, range_with_len}
use Rattle.std.proofs.lemmas.List.FromFn.{get_or-range_with_len, length-range_with_len}
use Rattle.std.proofs.lemmas.Bool.{both_ways, cases_Bool, cases_eq, cases_lt, or_cases, or_left, or_right}
use Rattle.search.specs.Steps.{lowest_from, lowest, some_below}

below_from : (n i : ℕ) (g : ℕ → Bool) (j : ℕ) → i ≤ j → j < lowest_from n i g → g j ≡ false
unfolding lowest_from
below_from zero i g j h k = absurd (omega arith)
below_from (suc n) i g j h k = go (λ l r. below_from n (suc i) g j l r) (g i) refl k
  where
    go : (suc i ≤ j → j < lowest_from n (suc i) g → g j ≡ false) → (b : Bool) → g i ≡ b → j < cond b i (lowest_from n (suc i) g) → g j ≡ false
    go ih true e k = absurd (omega arith)
    go ih false e k = elim (cases_eq j i) [ inl q ↦ ap g q ∙ e | inr ne ↦ ih (omega arith) k ]

within_from : (n i : ℕ) (g : ℕ → Bool) → (lowest_from n i g ≤ i + n) × (lowest_from n i g < i + n → g (lowest_from n i g) ≡ true)
unfolding lowest_from
within_from zero i g = (omega arith, λ h. absurd (omega arith))
within_from (suc n) i g = go (within_from n (suc i) g) (g i) refl
  where
    r : ℕ
    r = lowest_from n (suc i) g

    go : (r ≤ suc i + n) × (r < suc i + n → g r ≡ true) → (b : Bool) → g i ≡ b → (cond b i r ≤ i + suc n) × (cond b i r < i + suc n → g (cond b i r) ≡ true)
    go ih true e = (omega arith, λ _. e)
    go ih false e = (omega (arith, ih.0), λ h. ih.1 (omega arith))

pub below_lowest : (n : ℕ) (g : ℕ → Bool) (j : ℕ) → j < lowest n g → g j ≡ false
unfolding lowest
below_lowest n g j h = below_from n 0 g j (omega arith) h

pub lowest_within : (n : ℕ) (g : ℕ → Bool) → lowest n g ≤ n
unfolding lowest
lowest_within n g = omega (arith, (within_from n 0 g).0)

pub lowest_passes : (n : ℕ) (g : ℕ → Bool) → lowest n g < n → g (lowest n g) ≡ true
unfolding lowest
lowest_passes n g h = (within_from n 0 g).1 (omega arith)

-- where some number passes, the lowest is one
pub lowest_member : (n : ℕ) (g : ℕ → Bool) (a : ℕ) → a < n → g a ≡ true → (lowest n g < n) × (g (lowest n g) ≡ true)
lowest_member n g a lt e = elim (cases_lt a (lowest n g)) [
  | inl l ↦ absurd (both_ways (g a) (below_lowest n g a l) e)
  | inr l ↦ let below : lowest n g < n = omega arith in (below, lowest_passes n g below)
]

-- what passes with nothing below it is the lowest; n, where nothing passes
pub lowest_is : (n : ℕ) (g : ℕ → Bool) (i : ℕ) → i ≤ n → (i < n → g i ≡ true) → ((j : ℕ) → j < i → g j ≡ false) → lowest n g ≡ i
lowest_is n g i le passes below = elim (cases_lt (lowest n g) i) [
  | inl l ↦ absurd (both_ways (g (lowest n g)) (below (lowest n g) l) (lowest_passes n g (omega arith)))
  | inr l ↦ elim (cases_lt i (lowest n g)) [
    | inl r ↦ absurd (both_ways (g i) (below_lowest n g i r) (passes (omega (arith, lowest_within n g))))
    | inr r ↦ omega arith
  ]
]

pub some_in : (n : ℕ) (g : ℕ → Bool) (i : ℕ) → i < n → g i ≡ true → some_below n g ≡ true
unfolding some_below
some_in zero g i h e = absurd (omega arith)
some_in (suc n) g i h e = elim (cases_eq i n) [
  | inl q ↦ or_left (g n) (some_below n g) (subst (λ (j : ℕ). g j ≡ true) q e)
  | inr ne ↦ or_right (g n) (some_below n g) (some_in n g i (omega arith) e)
]

pub some_witness : (n : ℕ) (g : ℕ → Bool) → some_below n g ≡ true → (i : ℕ) × (i < n) × (g i ≡ true)
unfolding some_below
some_witness zero g e = absurd (both_ways false refl e)
some_witness (suc n) g e = go (some_witness n g) (or_cases (g n) (some_below n g) e)
  where
    go : (some_below n g ≡ true → (i : ℕ) × (i < n) × (g i ≡ true)) → (g n ≡ true) ⊎ (some_below n g ≡ true) → (i : ℕ) × (i < suc n) × (g i ≡ true)
    go ih (inl h) = (n, omega arith, h)
    go ih (inr h) = let w = ih h in (w.0, omega (arith, w.1), w.2)

pub some_not : (n : ℕ) (g : ℕ → Bool) → some_below n g ≡ false → (i : ℕ) → i < n → g i ≡ false
some_not n g e i lt = go (g i) refl
  where
    go : (b : Bool) → g i ≡ b → b ≡ false
    go true h = absurd (both_ways (some_below n g) e (some_in n g i lt h))
    go false h = refl

-- an answer about each number from 0 on says whether some number below n passes
pub some_of_range : (n : ℕ) (g : ℕ → Bool) (r : Bool)
    → MatchBool r ((k : ℕ) × (k < length (range_with_len 0 n)) × HoldsAt (λ i. g i ≡ true) (range_with_len 0 n) k) (AllWithin (λ i. g i ≡ false) (range_with_len 0 n) 0 (length (range_with_len 0 n)))
    → r ≡ some_below n g
some_of_range n g true h =
    let below : h.0 < n = omega (arith, h.1, length-range_with_len 0 n) in
    let at : 0 + h.0 ≡ h.0 = omega arith in
    sym (some_in n g h.0 below (subst (λ (j : ℕ). g j ≡ true) (get_or-range_with_len 0 n h.0 0 below ∙ at) (h.2 0)))
some_of_range n g false h = elim (cases_Bool (some_below n g)) [
  | inl e ↦
      let w = some_witness n g e in
      let at : 0 + w.0 ≡ w.0 = omega arith in
      absurd (both_ways (g w.0) (subst (λ (j : ℕ). g j ≡ false) (get_or-range_with_len 0 n w.0 0 w.1 ∙ at) (h w.0 0 (omega arith) (omega (arith, w.1, length-range_with_len 0 n)))) w.2)
  | inr e ↦ sym e
]
