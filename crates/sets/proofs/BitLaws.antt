-- The bits of what the operators on words give, over any width: each law by induction on the width, a bit at a time.
use Rattle.std.proofs.Common.{◌≡◌, ℕ, zero, suc, ◌-◌, ◌*◌, ◌/◌, ◌%◌, ◌^◌, ◌<◌, ◌≤◌, min, max, Bool, true, false, not, ◌&&◌, ◌||◌, eqb, ltb, ◌⊎◌, sym, refl, ap, ◌∙◌, inl, inr, mul_comm, pow-suc, div-one, arith, pow_pos, pow_mono}
use native.Mathlib.Nat.{zero-div, div-div-eq-div-mul, div-eq_of_lt}
use lib.Dec.{eqb-suc-suc, eqb-suc-zero}
use lib.Count.{count_trailing_zeros}
use lib.Bits.{bit_and, bit_or, and_step, or_step, and_shr, or_shr, and_mask, and_le_l, and_le_r}
use Rattle.std.proofs.lemmas.Bool.{cases_lt, cases_eq, both_ways}
use Rattle.std.proofs.lemmas.Bool.Decides.{nat_tests}
use Rattle.sets.specs.Bits.{bit}

-- a digit is 0 or 1
pub digit : (n : ℕ) → (n % 2 ≡ 0) ⊎ (n % 2 ≡ 1)
digit n = elim (cases_eq (n % 2) 0) [ inl e ↦ inl e | inr ne ↦ inr (omega arith) ]

pub bit_low : (n : ℕ) → bit n 0 ≡ eqb (n % 2) 1
unfolding bit
bit_low n = simp div-one

pub bit_suc : (n i : ℕ) → bit n (suc i) ≡ bit (n / 2) i
unfolding bit
bit_suc n i = ap (λ (x : ℕ). eqb (n / x % 2) 1) (pow-suc 2 i ∙ mul_comm (2 ^ i) 2) ∙ ap (λ (x : ℕ). eqb (x % 2) 1) (sym (div-div-eq-div-mul n 2 (2 ^ i)))

pub bit_test : (n i : ℕ) → eqb (bit_and (n / 2 ^ i) 1) 1 ≡ bit n i
unfolding bit
bit_test n i = ap (λ (x : ℕ). eqb x 1) (and_mask (n / 2 ^ i) 1)

and_digit : (a b : ℕ) → bit_and a b % 2 ≡ min (a % 2) (b % 2)
and_digit a b = omega (arith, and_step a b)

pub bit_zero : (i : ℕ) → bit 0 i ≡ false
unfolding bit
bit_zero i = simp zero-div

pub bit_high : (w n i : ℕ) → n < 2 ^ w → w ≤ i → bit n i ≡ false
unfolding bit
bit_high w n i h k = let lt : n < 2 ^ i = omega (arith, pow_mono k) in ap (λ (x : ℕ). eqb (x % 2) 1) (div-eq_of_lt lt)

pub bit_below : (w n i : ℕ) → n < 2 ^ w → bit n i ≡ true → i < w
bit_below w n i h e = elim (cases_lt i w) [ inl k ↦ k | inr k ↦ absurd (both_ways (bit n i) (bit_high w n i h k) e) ]

or_digit : (a b : ℕ) → bit_or a b % 2 ≡ max (a % 2) (b % 2)
or_digit a b = omega (arith, or_step a b)

min_test : (x y : ℕ) → eqb (min (x % 2) (y % 2)) 1 ≡ (eqb (x % 2) 1 && eqb (y % 2) 1)
min_test x y =
    elim (digit x) [
      | inl p ↦ elim (digit y) [ inl q ↦ rw (p, q) | inr q ↦ rw (p, q) ]
      | inr p ↦ elim (digit y) [ inl q ↦ rw (p, q) | inr q ↦ rw (p, q) ]
    ]

max_test : (x y : ℕ) → eqb (max (x % 2) (y % 2)) 1 ≡ (eqb (x % 2) 1 || eqb (y % 2) 1)
max_test x y =
    elim (digit x) [
      | inl p ↦ elim (digit y) [ inl q ↦ rw (p, q) | inr q ↦ rw (p, q) ]
      | inr p ↦ elim (digit y) [ inl q ↦ rw (p, q) | inr q ↦ rw (p, q) ]
    ]

pub bit_of_and : (a b i : ℕ) → bit (bit_and a b) i ≡ (bit a i && bit b i)
unfolding bit
bit_of_and a b i = rw (and_shr a b i, and_digit (a / 2 ^ i) (b / 2 ^ i)) (min_test (a / 2 ^ i) (b / 2 ^ i))

pub bit_of_or : (a b i : ℕ) → bit (bit_or a b) i ≡ (bit a i || bit b i)
unfolding bit
bit_of_or a b i = rw (or_shr a b i, or_digit (a / 2 ^ i) (b / 2 ^ i)) (max_test (a / 2 ^ i) (b / 2 ^ i))

-- numbers of w bits that agree in each are equal
pub bit_ext : (w a b : ℕ) → a < 2 ^ w → b < 2 ^ w → ((i : ℕ) → i < w → bit a i ≡ bit b i) → a ≡ b
bit_ext zero a b h k e = omega arith
bit_ext (suc w) a b h k e =
    let p : 2 ^ suc w ≡ 2 ^ w * 2 = pow-suc 2 w in
    let up : a / 2 ≡ b / 2 = bit_ext w (a / 2) (b / 2) (omega arith) (omega arith) (λ i l. sym (bit_suc a i) ∙ e (suc i) (omega arith) ∙ bit_suc b i) in
    let low : eqb (a % 2) 1 ≡ eqb (b % 2) 1 = sym (bit_low a) ∙ e 0 (omega arith) ∙ bit_low b in
    let same : a % 2 ≡ b % 2 = grind (arith, nat_tests) in
    omega arith

flipped : (x : ℕ) → eqb (1 - x % 2) 1 ≡ not (eqb (x % 2) 1)
flipped x = elim (digit x) [ inl q ↦ rw q | inr q ↦ rw q ]

-- the complement at w bits
pub bit_not : (w x i : ℕ) → x < 2 ^ w → i < w → bit (2 ^ w - 1 - x) i ≡ not (bit x i)
bit_not zero x i h k = absurd (omega arith)
bit_not (suc w) x zero h k =
    let p : 2 ^ suc w ≡ 2 ^ w * 2 = pow-suc 2 w in
    let z : (2 ^ suc w - 1 - x) % 2 ≡ 1 - x % 2 = omega arith in
    bit_low (2 ^ suc w - 1 - x) ∙ ap (λ (y : ℕ). eqb y 1) z ∙ flipped x ∙ ap not (sym (bit_low x))
bit_not (suc w) x (suc i) h k =
    let p : 2 ^ suc w ≡ 2 ^ w * 2 = pow-suc 2 w in
    let z : (2 ^ suc w - 1 - x) / 2 ≡ 2 ^ w - 1 - x / 2 = omega arith in
    bit_suc (2 ^ suc w - 1 - x) i ∙ ap (λ (y : ℕ). bit y i) z ∙ bit_not w (x / 2) i (omega arith) (omega arith) ∙ ap not (sym (bit_suc x i))

-- a power of two has one bit
pub bit_one : (k i : ℕ) → bit (2 ^ k) i ≡ eqb i k
bit_one zero zero = bit_low 1
bit_one zero (suc i) = bit_suc 1 i ∙ bit_zero i ∙ grind (arith, nat_tests)
bit_one (suc k) zero = let p : 2 ^ suc k ≡ 2 ^ k * 2 = pow-suc 2 k in let z : 2 ^ suc k % 2 ≡ 0 = omega arith in bit_low (2 ^ suc k) ∙ rw z (grind (arith, nat_tests))
bit_one (suc k) (suc i) =
    let p : 2 ^ suc k ≡ 2 ^ k * 2 = pow-suc 2 k in
    let z : 2 ^ suc k / 2 ≡ 2 ^ k = omega arith in
    bit_suc (2 ^ suc k) i ∙ ap (λ (y : ℕ). bit y i) z ∙ bit_one k i ∙ grind (arith, nat_tests)

-- the k low bits
pub bit_ones : (k i : ℕ) → bit (2 ^ k - 1) i ≡ ltb i k
bit_ones zero i = bit_zero i ∙ grind (arith, nat_tests)
bit_ones (suc k) zero =
    let p : 2 ^ suc k ≡ 2 ^ k * 2 = pow-suc 2 k in
    let q : 0 < 2 ^ k = pow_pos k in
    let z : (2 ^ suc k - 1) % 2 ≡ 1 = omega arith in bit_low (2 ^ suc k - 1) ∙ rw z (grind (arith, nat_tests))
bit_ones (suc k) (suc i) =
    let p : 2 ^ suc k ≡ 2 ^ k * 2 = pow-suc 2 k in
    let q : 0 < 2 ^ k = pow_pos k in
    let z : (2 ^ suc k - 1) / 2 ≡ 2 ^ k - 1 = omega arith in
    bit_suc (2 ^ suc k - 1) i ∙ ap (λ (y : ℕ). bit y i) z ∙ bit_ones k i ∙ grind (arith, nat_tests)

-- no bit, no number
pub no_bits : (w n : ℕ) → n < 2 ^ w → ((i : ℕ) → i < w → bit n i ≡ false) → n ≡ 0
no_bits w n h e = bit_ext w n 0 h (pow_pos w) (λ i k. e i k ∙ sym (bit_zero i))

and_same : (b : Bool) → (b && b) ≡ (b && not false)
and_same true = refl
and_same false = refl

joined : (x y : Bool) → (x ≡ true → y ≡ true) → (x && y) ≡ x
joined true y h = h refl
joined false y h = refl

-- the lowest bit of a number that is not 0
pub low_set : (w n : ℕ) → 0 < n → n < 2 ^ w → bit n (count_trailing_zeros w n) ≡ true
unfolding count_trailing_zeros
low_set zero n p h = absurd (omega arith)
low_set (suc w) n p h =
    let q : 2 ^ suc w ≡ 2 ^ w * 2 = pow-suc 2 w in
    elim (digit n) [
      | inl e ↦ rw e (bit_suc n (count_trailing_zeros w (n / 2)) ∙ low_set w (n / 2) (omega arith) (omega arith))
      | inr e ↦ rw e (bit_low n ∙ rw e)
    ]

-- n & (n - 1) is n without its lowest bit
pub low_drop : (w n i : ℕ) → 0 < n → n < 2 ^ w → bit (bit_and n (n - 1)) i ≡ (bit n i && not (eqb i (count_trailing_zeros w n)))
unfolding count_trailing_zeros
low_drop zero n i p h = absurd (omega arith)
low_drop (suc w) n zero p h =
    elim (digit n) [
      | inl e ↦ bit_of_and n (n - 1) 0 ∙ rw (bit_low n, e)
      | inr e ↦ let f : (n - 1) % 2 ≡ 0 = omega arith in bit_of_and n (n - 1) 0 ∙ rw (bit_low n, e, bit_low (n - 1), f)
    ]
low_drop (suc w) n (suc i) p h =
    let q : 2 ^ suc w ≡ 2 ^ w * 2 = pow-suc 2 w in
    elim (digit n) [
      | inl e ↦
          let f : (n - 1) / 2 ≡ n / 2 - 1 = omega arith in
          bit_of_and n (n - 1) (suc i) ∙ rw (bit_suc n i, bit_suc (n - 1) i, f, e, eqb-suc-suc i (count_trailing_zeros w (n / 2)), ← bit_of_and (n / 2) (n / 2 - 1) i) (low_drop w (n / 2) i (omega arith) (omega arith))
      | inr e ↦
          let f : (n - 1) / 2 ≡ n / 2 = omega arith in
          bit_of_and n (n - 1) (suc i) ∙ rw (bit_suc n i, bit_suc (n - 1) i, f, e, eqb-suc-zero i) (and_same (bit (n / 2) i))
    ]

pub bit_none : (n i : ℕ) → n ≡ 0 → bit n i ≡ false
bit_none n i e = rw e (bit_zero i)

-- `x & !y` at w bits
pub bit_without : (w x y i : ℕ) → x < 2 ^ w → y < 2 ^ w → bit (bit_and x (2 ^ w - 1 - y)) i ≡ (bit x i && not (bit y i))
bit_without w x y i h k =
    elim (cases_lt i w) [
      | inl l ↦ bit_of_and x (2 ^ w - 1 - y) i ∙ ap (λ (b : Bool). bit x i && b) (bit_not w y i k l)
      | inr l ↦ bit_of_and x (2 ^ w - 1 - y) i ∙ rw (bit_high w x i h l)
    ]

-- a set of fewer bits is no larger a number
pub sub_le : (w a b : ℕ) → a < 2 ^ w → b < 2 ^ w → ((i : ℕ) → bit a i ≡ true → bit b i ≡ true) → a ≤ b
sub_le w a b h k s =
    let e : bit_and a b ≡ a = bit_ext w (bit_and a b) a (omega (arith, and_le_l a b)) h (λ i l. bit_of_and a b i ∙ joined (bit a i) (bit b i) (s i)) in
    omega (arith, and_le_r a b)

-- nothing below the lowest bit is set
pub low_least : (w n i : ℕ) → bit n i ≡ true → count_trailing_zeros w n ≤ i
unfolding count_trailing_zeros
low_least zero n i e = omega arith
low_least (suc w) n zero e =
    elim (digit n) [
      | inl d ↦ absurd (both_ways (bit n 0) (bit_low n ∙ rw d) e)
      | inr d ↦ rw d (omega arith)
    ]
low_least (suc w) n (suc i) e =
    elim (digit n) [
      | inl d ↦ rw d (let k : count_trailing_zeros w (n / 2) ≤ i = low_least w (n / 2) i (sym (bit_suc n i) ∙ e) in omega arith)
      | inr d ↦ rw d (omega arith)
    ]
