-- Tests over small ranges, and lists of a function's values: each is read off by cases.
use Rattle.std.proofs.Common.{◌≡◌, ℕ, zero, suc, Bool, true, false, cond, not, ◌&&◌, ◌||◌, ltb, [], get_or, ℤ, pos, negsuc, sym, refl, ap, ◌∙◌, arith}
use lib.Dec.{leb-suc-suc}
use Rattle.std.proofs.lemmas.Bool.{both_ways, eqb-true, lt-ltb, le-ltb, or_left, or_right}
use Rattle.tasks.specs.Meaning.{value}
use Rattle.examples.proofs.Sweeps.{tells, values, at}

pub tells_is : (z : ℤ) (v : Bool) → tells z v ≡ true → z ≡ value v
tells_is (pos n) true e = ap pos (eqb-true n 1 e)
tells_is (pos n) false e = absurd (both_ways false refl e)
tells_is (negsuc n) true e = absurd (both_ways false refl e)
tells_is (negsuc n) false e = ap negsuc (eqb-true n 0 e)

pub is_told : (z : ℤ) (v : Bool) → z ≡ value v → tells z v ≡ true
is_told z true e = ap (λ x. tells x true) e
is_told z false e = ap (λ x. tells x false) e

values_at {ℓ} : {A : Type ℓ} (n : ℕ) (g : ℕ → A) (i : ℕ) (d : A) → get_or (values n g) i d ≡ cond (ltb i n) (g i) d
values_at zero g i d = ap (λ b. cond b (g i) d) (sym (le-ltb i 0 (omega arith)))
values_at (suc n) g zero d = ap (λ b. cond b (g 0) d) (sym (lt-ltb 0 (suc n) (omega arith)))
values_at (suc n) g (suc i) d = values_at n (λ j. g (suc j)) i d ∙ ap (λ b. cond b (g (suc i)) d) (sym (leb-suc-suc (suc i) n))

cond_and : (b x : Bool) → cond b x false ≡ (b && x)
cond_and true x = refl
cond_and false x = refl

pub table_at : (k n : ℕ) (g : ℕ → ℕ → Bool) (i a : ℕ) → at (values k (λ i. values n (g i))) i a ≡ ((ltb i k && ltb a n) && g i a)
table_at k n g i a = ap (λ r. get_or r a false) (values_at k (λ i. values n (g i)) i []) ∙ go (ltb i k)
  where
    go : (b : Bool) → get_or (cond b (values n (g i)) []) a false ≡ ((b && ltb a n) && g i a)
    go true = values_at n (g i) a false ∙ cond_and (ltb a n) (g i a)
    go false = refl

pub twice : (b x : Bool) → (b && x) ≡ (b && (b && x))
twice true x = refl
twice false x = refl

pub implied : (u v : Bool) → (not u || v) ≡ true → u ≡ true → v ≡ true
implied true v e h = e
implied false v e h = absurd (both_ways false refl h)

pub implies : (u v : Bool) → (u ≡ true → v ≡ true) → (not u || v) ≡ true
implies true v h = h refl
implies false v h = refl

pub off : (u v : Bool) → (u ≡ true → v ≡ true) → v ≡ false → u ≡ false
off true v h e = absurd (both_ways v e (h refl))
off false v h e = refl

pub never_true : (u : Bool) → (u ≡ true → ⊥) → u ≡ false
never_true true h = absurd (h refl)
never_true false h = refl

pub never_false : (u : Bool) → (u ≡ false → ⊥) → u ≡ true
never_false true h = refl
never_false false h = absurd (h refl)

pub either_value : (g : Bool → Bool) (v : Bool) → g v ≡ true → (g true || g false) ≡ true
either_value g true e = or_left (g true) (g false) e
either_value g false e = or_right (g true) (g false) e

pub either_way : (a b c d : Bool) → (a ≡ true → c ≡ true) → (b ≡ true → d ≡ true) → (a || b) ≡ true → (c || d) ≡ true
either_way true b c d f g e = or_left c d (f refl)
either_way false true c d f g e = or_right c d (g refl)
either_way false false c d f g e = absurd (both_ways false refl e)
