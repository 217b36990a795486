-- A start as a state: it has the facts that the numbers say, and the numbers of its facts give the state back.
use Rattle.std.proofs.Common.{◌≡◌, ℕ, zero, suc, ◌+◌, ◌^◌, ◌<◌, ◌≤◌, min, Bool, true, false, ◌&&◌, ltb, ◌⊎◌, inl, inr, ℤ, pos, negsuc, sym, refl, ap, ◌∙◌, arith, pow_mono}
use Rattle.std.proofs.lemmas.Bool.{cond-true, lt-ltb, le-ltb, cases_lt}
use Rattle.sets.specs.Bits.{bit}
use Rattle.sets.proofs.BitLaws.{bit_high}
use Rattle.sets.specs.declared.literals.Literals.{Literals}
use Rattle.sets.specs.Sets.{has, member}
use Rattle.sets.specs.Signs.{says}
use Rattle.tasks.specs.Meaning.{value}
use Rattle.tasks.specs.Rows.{NamesBelow, starts}
use Rattle.tasks.specs.States.{packed, put}
use Rattle.tasks.proofs.Packing.{is_packed}

put_value : (b c : Bool) → put (value b) c ≡ b
put_value true c = refl
put_value false c = refl

pub starts_inside : (facts state f : ℕ) → f < facts → starts facts state f ≡ value (bit state f)
starts_inside facts state f l = cond-true (ltb f facts) (value (bit state f)) (pos 0) (lt-ltb f facts l)

-- no state has a bit from 64 on, so a limit above 64 keeps what 64 keeps
kept_below : (facts state f : ℕ) → state < 2 ^ 64 → f < facts → (bit state f && ltb f (min facts 64)) ≡ bit state f
kept_below facts state f small l = go (cases_lt f 64)
  where
    and_true : (b : Bool) → (b && true) ≡ b
    and_true true = refl
    and_true false = refl

    go : (f < 64) ⊎ (64 ≤ f) → (bit state f && ltb f (min facts 64)) ≡ bit state f
    go (inl k) = ap (λ b. bit state f && b) (lt-ltb f (min facts 64) (omega arith)) ∙ and_true (bit state f)
    go (inr k) =
        let none = bit_high 64 state f small k in
        ap (λ b. b && ltb f (min facts 64)) none ∙ sym none

pub start_packed : (facts state x : ℕ) → state < 2 ^ 64 → x < 2 ^ 64 → ((f : ℕ) → bit x f ≡ (bit state f && ltb f (min facts 64)))
    → x ≡ packed (λ f. put (starts facts state f) false) facts
start_packed facts state x fits small bits =
    is_packed (64 + facts) (λ f. put (starts facts state f) false) facts x (omega arith) (omega (arith, small, pow_mono {i = 64} {j = 64 + facts} (omega arith)))
    (λ f l. bits f ∙ kept_below facts state f fits l
    ∙ sym (ap (λ z. put z false) (starts_inside facts state f l) ∙ put_value (bit state f) false))
    (λ f l. bits f ∙ ap (λ b. bit state f && b) (le-ltb f (min facts 64) (omega arith)) ∙ and_false (bit state f))
  where
    and_false : (b : Bool) → (b && false) ≡ false
    and_false true = refl
    and_false false = refl

-- the state in which the facts are true that the numbers say
said_true : (z : ℤ) → says z true ≡ put z false
said_true (pos zero) = refl
said_true (pos (suc n)) = refl
said_true (negsuc n) = refl

pub named_state : (numbers : ℕ → ℤ) (n : ℕ) (set : Literals) → n ≤ 64 → set.trues.bits < 2 ^ 64 → NamesBelow n numbers set
    → set.trues.bits ≡ packed (λ f. put (numbers f) false) n
unfolding has member
named_state numbers n set few small inv =
    is_packed 64 (λ f. put (numbers f) false) n set.trues.bits few small
    (λ f l. inv f true ∙ ap (λ b. b && says (numbers f) true) (lt-ltb f n l) ∙ said_true (numbers f))
    (λ f l. inv f true ∙ ap (λ b. b && says (numbers f) true) (le-ltb f n l))
