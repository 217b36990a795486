-- A word of w bits as a set: what each method of the set types answers, over any width.
use Rattle.std.proofs.Common.{◌≡◌, ℕ, zero, suc, ◌+◌, ◌-◌, ◌*◌, ◌%◌, ◌^◌, ◌<◌, ◌≤◌, min, not, ◌&&◌, ◌||◌, eqb, ltb, Decides, inl, inr, pow-suc, arith}
use lib.Bits.{bit_and, bit_or, and_le_l, and_le_r}
use lib.Count.{count_trailing_zeros}
use Rattle.std.proofs.lemmas.Nat.{one_shl}
use Rattle.std.proofs.lemmas.Bool.{cases_eq, cases_lt, both_ways, eq-eqb, ne_eqb, eqb-true, lt-ltb, le-ltb}
use Rattle.sets.specs.Bits.{bit}
use Rattle.sets.specs.Counts.{Empty, Lowest, count}
use Rattle.sets.proofs.BitLaws.{bit_of_and, bit_of_or, bit_zero, bit_one, bit_ones, bit_none, no_bits, low_set, low_least, low_drop}
use Rattle.sets.proofs.Counting.{count_ext, count_drop, count_none, none_count, not_lower}

-- `(1 << k) - 1` has the numbers below k
pub below_bits : (w k i : ℕ) → k < w → bit ((1 * 2 ^ k) % 2 ^ w - 1) i ≡ ltb i (min k w)
below_bits w k i l = let m : min k w ≡ k = omega arith in rw (one_shl k w l, m) (bit_ones k i)

-- all ones are the numbers below w, which is the lower limit
pub full_bits : (w k i : ℕ) → w ≤ k → bit (2 ^ w - 1) i ≡ ltb i (min k w)
full_bits w k i l = let m : min k w ≡ w = omega arith in rw m (bit_ones w i)

pub empty_word : (w n : ℕ) → n < 2 ^ w → Decides (eqb n 0) (Empty (bit n))
empty_word w n h = (λ e i. bit_none n i (eqb-true n 0 e), λ z. eq-eqb n 0 (no_bits w n h (λ i l. z i)))

pub lowest_word : (w n : ℕ) → 0 < n → n < 2 ^ w → Lowest (bit n) (count_trailing_zeros w n)
lowest_word w n p h = record { member = low_set w n p h; least = λ i e. low_least w n i e }

-- `1 << k` has k alone, and nothing where a word has no such bit
pub only_bits : (w k i : ℕ) → k < w → bit ((1 * 2 ^ k) % 2 ^ w) i ≡ (ltb k w && eqb i k)
only_bits w k i l = rw (one_shl k w l, lt-ltb k w l) (bit_one k i)

pub only_none : (w k i : ℕ) → w ≤ k → bit 0 i ≡ (ltb k w && eqb i k)
only_none w k i l = rw (le-ltb k w l) (bit_zero i)

-- a word with a lowest bit is not 0
pub lowest_positive : (n l : ℕ) → Lowest (bit n) l → 0 < n
lowest_positive n l h = elim (cases_lt 0 n) [ inl p ↦ p | inr z ↦ absurd (both_ways (bit n l) (bit_none n l (omega arith)) h.member) ]

-- `n & m`, where m is one less than n
pub drop_word : (w n m l i : ℕ) → n < 2 ^ w → (0 < n → m ≡ n - 1) → Lowest (bit n) l → bit (bit_and n m) i ≡ (bit n i && not (eqb i l))
drop_word w n m l i h e low =
    let p : 0 < n = lowest_positive n l low in
    let a : count_trailing_zeros w n ≤ l = low_least w n l low.member in
    let b : l ≤ count_trailing_zeros w n = low.least _ (low_set w n p h) in
    let s : l ≡ count_trailing_zeros w n = omega arith in
    rw (e p, s) (low_drop w n i p h)

pub drop_less : (n m : ℕ) → (0 < n → m ≡ n - 1) → bit_and n m ≤ n - 1
drop_less n m e = elim (cases_lt 0 n) [
  | inl p ↦ let d : m ≡ n - 1 = e p in omega (arith, and_le_r n m)
  | inr z ↦ omega (arith, and_le_l n m)
]

pub below_pow : (n : ℕ) → n < 2 ^ n
below_pow zero = omega arith
below_pow (suc n) = let p : 2 ^ suc n ≡ 2 ^ n * 2 = pow-suc 2 n in let h : n < 2 ^ n = below_pow n in omega arith

-- a number is 0 where it has no bit, and only there
pub empty_number : (n : ℕ) → Decides (eqb n 0) (Empty (bit n))
empty_number n = empty_word n n (below_pow n)

pub lowest_some : (w n : ℕ) → n < 2 ^ w → (Empty (bit n) → ⊥) → Lowest (bit n) (count_trailing_zeros w n)
lowest_some w n h some = elim (cases_lt 0 n) [ inl p ↦ lowest_word w n p h | inr z ↦ absurd (some (λ i. bit_none n i (omega arith))) ]

-- one bit fewer below w, or none as before
one_less : (w n r l : ℕ) → Lowest (bit n) l → ((i : ℕ) → bit r i ≡ (bit n i && not (eqb i l))) → count (bit r) w ≡ count (bit n) w - 1
one_less w n r l low others =
    let same : count (bit r) w ≡ count (λ i. bit n i && not (eqb i l)) w = count_ext _ _ w (λ i k. others i) in
    elim (cases_lt l w) [
      | inl k ↦ let more : count (λ i. bit n i && not (eqb i l)) w + 1 ≡ count (bit n) w = count_drop (bit n) w l k low.member in omega arith
      | inr k ↦
          let none : count (bit n) w ≡ 0 = count_none _ w (λ i m. not_lower (bit n) l i low (omega arith)) in
          let rest : count (λ i. bit n i && not (eqb i l)) w ≡ 0 = count_none _ w (λ i m. rw (not_lower (bit n) l i low (omega arith))) in
          omega arith
    ]

-- what is left of a word without its lowest bit is 0 unless the word has two
pub many_bits : (w n r : ℕ) → ((l : ℕ) → Lowest (bit n) l → (i : ℕ) → bit r i ≡ (bit n i && not (eqb i l))) → r ≤ n - 1 → r < 2 ^ w → not (eqb r 0) ≡ ltb 1 (count (bit n) w)
many_bits w n r others less fits =
    elim (cases_lt 0 n) [
      | inr z ↦
          let none : count (bit n) w ≡ 0 = count_none _ w (λ i l. bit_none n i (omega arith)) in
          rw (eq-eqb r 0 (omega arith), none)
      | inl p ↦
          let low : Lowest (bit n) (count_trailing_zeros n n) = lowest_word n n p (below_pow n) in
          let fewer : count (bit r) w ≡ count (bit n) w - 1 = one_less w n r _ low (others _ low) in
          elim (cases_eq r 0) [
            | inl z ↦
                let none : count (bit r) w ≡ 0 = count_none _ w (λ i l. bit_none r i z) in
                rw (eq-eqb r 0 z, le-ltb 1 (count (bit n) w) (omega arith))
            | inr d ↦
                elim (cases_eq (count (bit r) w) 0) [
                  | inl z ↦ absurd (d (no_bits w r fits (λ i l. none_count _ w i z l)))
                  | inr k ↦ rw (ne_eqb r 0 d, lt-ltb 1 (count (bit n) w) (omega arith))
                ]
          ]
    ]

-- what `&` and `|` give, bit by bit
pub and_word : (x y r i : ℕ) → r ≡ bit_and x y → bit r i ≡ (bit x i && bit y i)
and_word x y r i e = rw e (bit_of_and x y i)

pub or_word : (x y r i : ℕ) → r ≡ bit_or x y → bit r i ≡ (bit x i || bit y i)
or_word x y r i e = rw e (bit_of_or x y i)

-- what the sets of words need
pub ruleset word_laws = (and_word, or_word, bit_none, empty_number, many_bits, lowest_positive)
