-- How many members a set of numbers has: what `count_ones` gives, what one member less makes of it, and when it is 0.
use Rattle.std.proofs.Common.{◌≡◌, ℕ, zero, suc, ◌+◌, ◌*◌, ◌/◌, ◌%◌, ◌^◌, ◌<◌, ◌≤◌, Bool, true, false, cond, not, ◌&&◌, eqb, sym, refl, ap₂, inl, inr, pow-suc, arith}
use lib.Count.{ones, ones_step}
use Rattle.std.proofs.lemmas.Bool.{cases_eq, cases_Bool, eq-eqb, ne_eqb}
use Rattle.sets.specs.Bits.{bit}
use Rattle.sets.specs.Counts.{Lowest, count}
use Rattle.sets.proofs.BitLaws.{bit_low, bit_suc, digit}

pub count_ext : (g h : ℕ → Bool) (n : ℕ) → ((i : ℕ) → i < n → g i ≡ h i) → count g n ≡ count h n
unfolding count
count_ext g h zero e = refl
count_ext g h (suc n) e = ap₂ (λ (b : Bool) (m : ℕ). cond b 1 0 + m) (e n (omega arith)) (count_ext g h n (λ i l. e i (omega arith)))

-- the lowest number counted apart
count_low : (g : ℕ → Bool) (n : ℕ) → count g (suc n) ≡ cond (g 0) 1 0 + count (λ i. g (suc i)) n
unfolding count
count_low g zero = refl
count_low g (suc n) = let e = count_low g n in omega arith

low_digit : (n : ℕ) → cond (bit n 0) 1 0 ≡ n % 2
low_digit n = elim (digit n) [ inl e ↦ rw (bit_low n, e) | inr e ↦ rw (bit_low n, e) ]

-- `count_ones` counts the bits that are set
pub ones_count : (w n : ℕ) → n < 2 ^ w → ones n ≡ count (bit n) w
unfolding count ones
ones_count zero n h = let z : n ≡ 0 = omega arith in rw z
ones_count (suc w) n h =
    let p : 2 ^ suc w ≡ 2 ^ w * 2 = pow-suc 2 w in
    let up : ones (n / 2) ≡ count (bit (n / 2)) w = ones_count w (n / 2) (omega arith) in
    let same : count (bit (n / 2)) w ≡ count (λ i. bit n (suc i)) w = count_ext (bit (n / 2)) (λ i. bit n (suc i)) w (λ i l. sym (bit_suc n i)) in
    let all : count (bit n) (suc w) ≡ cond (bit n 0) 1 0 + count (λ i. bit n (suc i)) w = count_low (bit n) w in
    let low : cond (bit n 0) 1 0 ≡ n % 2 = low_digit n in
    let step : ones n ≡ n % 2 + ones (n / 2) = ones_step n in
    omega arith

pub count_none : (g : ℕ → Bool) (n : ℕ) → ((i : ℕ) → i < n → g i ≡ false) → count g n ≡ 0
unfolding count
count_none g zero e = refl
count_none g (suc n) e = let z : count g n ≡ 0 = count_none g n (λ i l. e i (omega arith)) in rw (e n (omega arith), z)

pub none_count : (g : ℕ → Bool) (n i : ℕ) → count g n ≡ 0 → i < n → g i ≡ false
unfolding count
none_count g zero i z l = absurd (omega arith)
none_count g (suc n) i z l =
    elim (cases_Bool (g n)) [
      | inl e ↦ absurd (let k : ◌≡◌ {A = ℕ} (cond (g n) 1 0) 1 = rw e in omega arith)
      | inr e ↦ elim (cases_eq i n) [
        | inl s ↦ rw s e
        | inr d ↦ none_count g n i (omega arith) (omega arith)
      ]
    ]

-- one member less
pub count_drop : (g : ℕ → Bool) (n k : ℕ) → k < n → g k ≡ true → count (λ i. g i && not (eqb i k)) n + 1 ≡ count g n
unfolding count
count_drop g zero k l e = absurd (omega arith)
count_drop g (suc n) k l e =
    elim (cases_eq n k) [
      | inl s ↦
          let rest : count (λ i. g i && not (eqb i k)) n ≡ count g n = count_ext (λ i. g i && not (eqb i k)) g n (λ i m. other i (omega arith)) in
          let here : g n ≡ true = rw s e in
          let gone : (g n && not (eqb n k)) ≡ false = rw (here, eq-eqb n k s) in
          rw (gone, here, rest) (omega arith)
      | inr d ↦
          let up : count (λ i. g i && not (eqb i k)) n + 1 ≡ count g n = count_drop g n k (omega arith) e in
          let here : (g n && not (eqb n k)) ≡ g n = other n d in
          rw here (omega arith)
    ]
  where
    other : (i : ℕ) → (i ≡ k → ⊥) → (g i && not (eqb i k)) ≡ g i
    other i d = elim (cases_Bool (g i)) [ inl b ↦ rw (b, ne_eqb i k d) | inr b ↦ rw b ]

-- nothing below the lowest member is in the set
pub not_lower : (g : ℕ → Bool) (l i : ℕ) → Lowest g l → i < l → g i ≡ false
not_lower g l i low m = elim (cases_Bool (g i)) [ inl e ↦ absurd (let k : l ≤ i = low.least i e in omega arith) | inr e ↦ e ]
