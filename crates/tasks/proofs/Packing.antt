-- The bits of a packed number: below n they are those of the test, from n on there are none. So a number of few bits
-- that agrees with the test is the packed one.
use Rattle.std.proofs.Common.{◌≡◌, ℕ, zero, suc, ◌+◌, ◌-◌, ◌*◌, ◌/◌, ◌%◌, ◌^◌, ◌<◌, ◌≤◌, Bool, true, false, cond, eqb, ◌⊎◌, sym, refl, ap, ◌∙◌, inl, inr, arith, pow_mono}
use native.Mathlib.Nat.{pow-succ', add-mul-div_left, div-eq_of_lt}
use Rattle.std.proofs.lemmas.Nat.{pow_pos, pow-add}
use Rattle.std.proofs.lemmas.Bool.{cases_lt}
use Rattle.sets.specs.Bits.{bit}
use Rattle.sets.proofs.BitLaws.{bit_ext, bit_high}
use Rattle.tasks.specs.States.{packed}

-- what stands above bit f does not change it
bit_above : (x z f : ℕ) → bit (x + 2 ^ f * (2 * z)) f ≡ bit x f
unfolding bit
bit_above x z f =
    let d = add-mul-div_left x (2 * z) (pow_pos f) in
    let e : (x + 2 ^ f * (2 * z)) / 2 ^ f % 2 ≡ x / 2 ^ f % 2 = omega arith in
    ap (λ q. eqb q 1) e

pow_over : (f n : ℕ) → f < n → 2 ^ n ≡ 2 ^ f * (2 * 2 ^ (n - f - 1))
pow_over f n lt =
    let e : n ≡ f + suc (n - f - 1) = omega arith in
    ap (λ k. 2 ^ k) e ∙ pow-add 2 f (suc (n - f - 1)) ∙ ap (λ k. 2 ^ f * k) (pow-succ' 2 (n - f - 1))

pub packed_below : (b : ℕ → Bool) (n : ℕ) → packed b n < 2 ^ n
unfolding packed
packed_below b zero = omega arith
packed_below b (suc n) = go (packed_below b n) (b n)
  where
    go : packed b n < 2 ^ n → (c : Bool) → packed b n + cond c 1 0 * 2 ^ n < 2 ^ suc n
    go ih true = omega (arith, pow-succ' 2 n)
    go ih false = omega (arith, pow-succ' 2 n)

top_bit : (x n : ℕ) (c : Bool) → x < 2 ^ n → bit (x + cond c 1 0 * 2 ^ n) n ≡ c
unfolding bit
top_bit x n true lt =
    let d = add-mul-div_left x 1 (pow_pos n) in
    let z : x / 2 ^ n ≡ 0 = div-eq_of_lt lt in
    let s : x + 1 * 2 ^ n ≡ x + 2 ^ n * 1 = omega arith in
    ap (λ y. eqb (y / 2 ^ n % 2) 1) s ∙ ap (λ q. eqb (q % 2) 1) (d ∙ ap (λ q. q + 1) z)
top_bit x n false lt =
    let z : x / 2 ^ n ≡ 0 = div-eq_of_lt lt in
    let s : x + 0 * 2 ^ n ≡ x = omega arith in
    ap (λ y. eqb (y / 2 ^ n % 2) 1) s ∙ ap (λ q. eqb (q % 2) 1) z

low_bit : (x n f : ℕ) (c : Bool) → f < n → bit (x + cond c 1 0 * 2 ^ n) f ≡ bit x f
low_bit x n f true lt =
    let s : x + 1 * 2 ^ n ≡ x + 2 ^ f * (2 * 2 ^ (n - f - 1)) = omega (arith, pow_over f n lt) in
    ap (λ y. bit y f) s ∙ bit_above x (2 ^ (n - f - 1)) f
low_bit x n f false lt =
    let s : x + 0 * 2 ^ n ≡ x = omega arith in
    ap (λ y. bit y f) s

pub bit_packed : (b : ℕ → Bool) (n f : ℕ) → f < n → bit (packed b n) f ≡ b f
unfolding packed
bit_packed b zero f lt = absurd (omega arith)
bit_packed b (suc n) f lt = go (λ l. bit_packed b n f l) (cases_lt f n)
  where
    go : (f < n → bit (packed b n) f ≡ b f) → (f < n) ⊎ (n ≤ f) → bit (packed b n + cond (b n) 1 0 * 2 ^ n) f ≡ b f
    go ih (inl l) = low_bit (packed b n) n f (b n) l ∙ ih l
    go ih (inr l) =
        let e : f ≡ n = omega arith in
        ap (λ g. bit (packed b n + cond (b n) 1 0 * 2 ^ n) g) e ∙ top_bit (packed b n) n (b n) (packed_below b n) ∙ ap b (sym e)

pub bit_past : (b : ℕ → Bool) (n f : ℕ) → n ≤ f → bit (packed b n) f ≡ false
bit_past b n f h = bit_high n (packed b n) f (packed_below b n) h

-- equal tests below n give one number
pub packed_same : (b c : ℕ → Bool) (n : ℕ) → ((f : ℕ) → f < n → b f ≡ c f) → packed b n ≡ packed c n
unfolding packed
packed_same b c zero e = refl
packed_same b c (suc n) e =
    let ih = packed_same b c n (λ f l. e f (omega arith)) in
    let q = e n (omega arith) in
    ap (λ x. x + cond (b n) 1 0 * 2 ^ n) ih ∙ ap (λ t. packed c n + cond t 1 0 * 2 ^ n) q

-- a number of w bits that has the test's bits below n and none from n on
pub is_packed : (w : ℕ) (b : ℕ → Bool) (n x : ℕ) → n ≤ w → x < 2 ^ w → ((f : ℕ) → f < n → bit x f ≡ b f) → ((f : ℕ) → n ≤ f → bit x f ≡ false) → x ≡ packed b n
is_packed w b n x few small low high =
    bit_ext w x (packed b n) small (let k = packed_below b n in omega (arith, pow_mono {i = n} {j = w} few)) (λ f l. go f (cases_lt f n))
  where
    go : (f : ℕ) → (f < n) ⊎ (n ≤ f) → bit x f ≡ bit (packed b n) f
    go f (inl l) = low f l ∙ sym (bit_packed b n f l)
    go f (inr l) = high f l ∙ sym (bit_past b n f l)
