-- Counts, largest numbers and tests over a range: how they bound one another, and how a test is read off.
use Rattle.std.specs.Prelude.{◌≡◌, ℕ, zero, suc, ◌+◌, ◌<◌, ◌≤◌, Bool, true, false, cond, ◌||◌, ◌⊎◌, ◌≢◌, refl}
use Rattle.std.proofs.Common.{sym, ap, subst, inl, inr, arith}
use Rattle.std.proofs.lemmas.Bool.{both_ways, cases_eq, and_parts, and_from, or_cases, or_left, or_right}
use Rattle.sets.specs.Counts.{count}
use Rattle.estimators.specs.Ranges.{some_below, all_below, most_below}

-- what is in g is in h or in k, so g has no more than both
pub count_cover : (g h k : ℕ → Bool) (n : ℕ) → ((i : ℕ) → i < n → g i ≡ true → (h i || k i) ≡ true) → count g n ≤ count h n + count k n
unfolding count
count_cover g h k zero in_one = omega arith
count_cover g h k (suc n) in_one = go (g n) (h n) (k n) (in_one n (omega arith)) (count_cover g h k n (λ i lt. in_one i (omega arith)))
  where
    go : (x y z : Bool) → (x ≡ true → (y || z) ≡ true) → count g n ≤ count h n + count k n → cond x 1 0 + count g n ≤ (cond y 1 0 + count h n) + (cond z 1 0 + count k n)
    go true true true e le = omega arith
    go true true false e le = omega arith
    go true false true e le = omega arith
    go true false false e le = absurd (both_ways false refl (e refl))
    go false true true e le = omega arith
    go false true false e le = omega arith
    go false false true e le = omega arith
    go false false false e le = omega arith

-- where nothing is from n on, the count over more is the count up to n
pub count_cut : (g : ℕ → Bool) (n top : ℕ) → n ≤ top → ((i : ℕ) → n ≤ i → i < top → g i ≡ false) → count g top ≡ count g n
unfolding count
count_cut g n zero le past = ap (count g) (let e : 0 ≡ n = omega arith in e)
count_cut g n (suc top) le past = go (cases_eq n (suc top)) (λ below. count_cut g n top below (λ i from to. past i from (omega arith)))
  where
    go : (n ≡ suc top) ⊎ (n ≢ suc top) → (n ≤ top → count g top ≡ count g n) → cond (g top) 1 0 + count g top ≡ count g n
    go (inl e) lower = ap (count g) (sym e)
    go (inr ne) lower = let last : g top ≡ false = past top (omega arith) (omega arith) in rw last (omega (arith, lower (omega arith)))

pub most_at : (g : ℕ → ℕ) (n i : ℕ) → i < n → g i ≤ most_below g n
unfolding most_below
most_at g zero i lt = absurd (omega arith)
most_at g (suc n) i lt = elim (cases_eq i n) [
  | inl e ↦ let at : g i ≡ g n = ap g e in omega arith
  | inr ne ↦ omega (arith, most_at g n i (omega arith))
]

pub most_bound : (g : ℕ → ℕ) (n top : ℕ) → ((i : ℕ) → i < n → g i ≤ top) → most_below g n ≤ top
unfolding most_below
most_bound g zero top h = omega arith
most_bound g (suc n) top h = omega (arith, h n (omega arith), most_bound g n top (λ i lt. h i (omega arith)))

pub some_in : (g : ℕ → Bool) (n i : ℕ) → i < n → g i ≡ true → some_below g n ≡ true
unfolding some_below
some_in g zero i h e = absurd (omega arith)
some_in g (suc n) i h e = elim (cases_eq i n) [
  | inl q ↦ or_left (g n) (some_below g n) (subst (λ (j : ℕ). g j ≡ true) q e)
  | inr ne ↦ or_right (g n) (some_below g n) (some_in g n i (omega arith) e)
]

pub some_at : (g : ℕ → Bool) (n : ℕ) → some_below g n ≡ true → (i : ℕ) × (g i ≡ true)
unfolding some_below
some_at g zero e = absurd (both_ways false refl e)
some_at g (suc n) e = elim (or_cases (g n) (some_below g n) e) [ inl here ↦ (n, here) | inr lower ↦ some_at g n lower ]

pub all_at : (g : ℕ → Bool) (n : ℕ) → all_below g n ≡ true → (i : ℕ) → i < n → g i ≡ true
unfolding all_below
all_at g zero e i h = absurd (omega arith)
all_at g (suc n) e i h =
    let parts = and_parts (g n) (all_below g n) e in
    elim (cases_eq i n) [ inl q ↦ subst (λ (j : ℕ). g j ≡ true) (sym q) parts.0 | inr ne ↦ all_at g n parts.1 i (omega arith) ]

pub all_from : (g : ℕ → Bool) (n : ℕ) → ((i : ℕ) → i < n → g i ≡ true) → all_below g n ≡ true
unfolding all_below
all_from g zero h = refl
all_from g (suc n) h = and_from (g n) (all_below g n) (h n (omega arith)) (all_from g n (λ i l. h i (omega arith)))
