-- What an action needs and makes, read off sets of literals: numbers that say a literal are in the set and no others.
use Rattle.std.proofs.Common.{◌≡◌, ℕ, zero, suc, ◌^◌, ◌<◌, ◌≤◌, Bool, true, false, not, ◌&&◌, ◌||◌, ltb, ℤ, pos, negsuc, Decides, sym, refl, ap, ◌∙◌, ap₂, inl, inr, arith}
use Rattle.std.proofs.lemmas.Bool.{cases_lt, lt-ltb, le-ltb, false≢true}
use Rattle.sets.specs.Bits.{bit}
use Rattle.sets.specs.Sets.{has}
use Rattle.sets.specs.Signs.{says, is}
use Rattle.sets.specs.declared.literals.Literals.{Literals}
use Rattle.sets.proofs.Membership.{member_below}
use Rattle.tasks.specs.Meaning.{Three, value}
use Rattle.tasks.specs.Rows.{Names}
use Rattle.tasks.specs.States.{Holds, Meets, packed, put}
use Rattle.tasks.proofs.Packing.{is_packed}

pub is_value : (v b : Bool) → is v b ≡ true → b ≡ v
is_value true b e = e
is_value false true e = sym e
is_value false false e = refl

pub value_is : (v b : Bool) → b ≡ v → is v b ≡ true
value_is true b e = e
value_is false true e = sym e
value_is false false e = refl

-- a number that says a sign is the sign's number
pub said_value : (z : ℤ) → Three z → (v : Bool) → says z v ≡ true → z ≡ value v
said_value (pos zero) h v e = absurd (false≢true e)
said_value (pos (suc zero)) h true e = refl
said_value (pos (suc zero)) h false e = absurd (false≢true e)
said_value (pos (suc (suc n))) h v e = absurd (omega arith)
said_value (negsuc zero) h true e = absurd (false≢true e)
said_value (negsuc zero) h false e = refl
said_value (negsuc (suc n)) h v e = absurd (omega arith)

pub value_said : (z : ℤ) (v : Bool) → z ≡ value v → says z v ≡ true
value_said z true e = ap (λ y. says y true) e
value_said z false e = ap (λ y. says y false) e

pub holding : (z : ℤ) (b : Bool) → ((v : Bool) → z ≡ value v → b ≡ v) → Holds z b
holding z b h = (h true, h false)

pub held : (z : ℤ) (b : Bool) → Holds z b → (v : Bool) → z ≡ value v → b ≡ v
held z b h true e = h.0 e
held z b h false e = h.1 e

-- only facts below 64 are in a set
pub has_below : (set : Literals) → set.trues.bits < 2 ^ 64 → set.falses.bits < 2 ^ 64 → (f : ℕ) (v : Bool) → has set f v ≡ true → f < 64
unfolding has
has_below set p q f true e = member_below 64 set.trues f p e
has_below set p q f false e = member_below 64 set.falses f q e

-- a literal is missing from a set less a state's literals where the state has it
pub left_none : (x y : Bool) → x ≡ true → (x && not y) ≡ false → y ≡ true
left_none true true e h = refl
left_none true false e h = absurd (false≢true (sym h))
left_none false y e h = absurd (false≢true e)

pub none_left : (x y : Bool) → (x ≡ true → y ≡ true) → (x && not y) ≡ false
none_left true y h = ap not (h refl)
none_left false y h = refl

-- the literals of the set hold exactly where the numbers do
pub meets_named : (facts : ℕ) (numbers : ℕ → ℤ) (set : Literals) (s : ℕ) (r : Bool) → Names numbers set → ((f : ℕ) → Three (numbers f))
    → ((f : ℕ) → facts ≤ f → numbers f ≡ pos 0) → Decides r ((f : ℕ) (v : Bool) → has set f v ≡ true → bit s f ≡ v) → Decides r (Meets facts numbers s)
meets_named facts numbers set s r names three past (forth, back) = (
  λ e f l. holding (numbers f) (bit s f) (λ v is. forth e f v (names f v ∙ value_said (numbers f) v is)),
  λ meets. back (λ f v e. elim (cases_lt f facts) [
    | inl l ↦ held (numbers f) (bit s f) (meets f l) v (said_value (numbers f) (three f) v (sym (names f v) ∙ e))
    | inr l ↦ absurd (false≢true (sym (ap (λ z. says z v) (past f l)) ∙ sym (names f v) ∙ e))
  ]),
)

put_said : (z : ℤ) (b : Bool) → ((b || says z true) && not (says z false)) ≡ put z b
put_said (pos zero) true = refl
put_said (pos zero) false = refl
put_said (pos (suc n)) true = refl
put_said (pos (suc n)) false = refl
put_said (negsuc n) true = refl
put_said (negsuc n) false = refl

and_true : (b : Bool) → (b && true) ≡ b
and_true true = refl
and_true false = refl

and_false : (b : Bool) → (b && false) ≡ false
and_false true = refl
and_false false = refl

-- the state that an action leaves, by whole words
pub after_packed : (facts : ℕ) (numbers : ℕ → ℤ) (set : Literals) (s x : ℕ) → facts ≤ 64 → x < 2 ^ 64 → Names numbers set
    → ((f : ℕ) → bit x f ≡ (((bit s f || has set f true) && not (has set f false)) && ltb f facts)) → x ≡ packed (λ f. put (numbers f) (bit s f)) facts
after_packed facts numbers set s x few small names is =
    is_packed 64 (λ f. put (numbers f) (bit s f)) facts x few small
    (λ f l. bits f ∙ ap (λ b. put (numbers f) (bit s f) && b) (lt-ltb f facts l) ∙ and_true (put (numbers f) (bit s f)))
    (λ f l. bits f ∙ ap (λ b. put (numbers f) (bit s f) && b) (le-ltb f facts l) ∙ and_false (put (numbers f) (bit s f)))
  where
    bits : (f : ℕ) → bit x f ≡ (put (numbers f) (bit s f) && ltb f facts)
    bits f = is f ∙ ap (λ b. b && ltb f facts) (ap₂ (λ t u. (bit s f || t) && not u) (names f true) (names f false) ∙ put_said (numbers f) (bit s f))
