-- Lists read from the front: what one number more adds to the numbers listed, and one literal more to the literals seen.
use Rattle.std.proofs.Common.{◌≡◌, ℕ, zero, suc, ◌+◌, ◌<◌, ◌≤◌, Bool, true, false, ◌&&◌, ◌||◌, eqb, ◌⊎◌, List, [], ◌∷◌, ◌++◌, length, get_or, take, ℤ, pos, negsuc, nat_abs, sym, refl, ap, ◌∙◌, ap₂, inl, inr, add-one, arith}
use Rattle.std.proofs.lemmas.List.{take_more}
use Rattle.std.proofs.lemmas.Bool.{and_parts, both_ways, cases_lt, eq-eqb, eqb-true, false≢true, or_cases, or_left, or_right}
use Rattle.std.proofs.lemmas.Bool.Decides.{nat_tests}
use Rattle.sets.specs.Signs.{says}
use Rattle.tasks.specs.Bans.{listed}
use Rattle.tasks.specs.Restarts.{seen}

pub eqb_swap : (a b : ℕ) → eqb a b ≡ eqb b a
eqb_swap a b = grind (arith, nat_tests)

or_false : (b : Bool) → (b || false) ≡ b
or_false true = refl
or_false false = refl

or_assoc : (a b c : Bool) → (a || (b || c)) ≡ ((a || b) || c)
or_assoc true b c = refl
or_assoc false b c = refl

listed_push : (ys : List ℕ) (y x : ℕ) → listed (ys ++ (y ∷ [])) x ≡ (listed ys x || eqb y x)
listed_push [] y x = or_false (eqb y x)
listed_push (z ∷ ys) y x = ap (λ b. eqb z x || b) (listed_push ys y x) ∙ or_assoc (eqb z x) (listed ys x) (eqb y x)

pub listed_more : (xs : List ℕ) (i x : ℕ) → i < length xs → listed (take (i + 1) xs) x ≡ (listed (take i xs) x || eqb (get_or xs i 0) x)
listed_more xs i x below = ap (λ ys. listed ys x) (take_more xs i 0 below) ∙ listed_push (take i xs) (get_or xs i 0) x

seen_push : (ls : List ℤ) (l : ℤ) (f : ℕ) (v : Bool) → seen (ls ++ (l ∷ [])) f v ≡ (seen ls f v || (eqb (nat_abs l) (f + 1) && says l v))
seen_push [] l f v = or_false (eqb (nat_abs l) (f + 1) && says l v)
seen_push (z ∷ ls) l f v =
    ap (λ b. (eqb (nat_abs z) (f + 1) && says z v) || b) (seen_push ls l f v)
    ∙ or_assoc (eqb (nat_abs z) (f + 1) && says z v) (seen ls f v) (eqb (nat_abs l) (f + 1) && says l v)

pub seen_more : (ls : List ℤ) (i f : ℕ) (v : Bool) → i < length ls
    → seen (take (i + 1) ls) f v ≡ (seen (take i ls) f v || (eqb (nat_abs (get_or ls i (pos 0))) (f + 1) && says (get_or ls i (pos 0)) v))
seen_more ls i f v below = ap (λ ks. seen ks f v) (take_more ls i (pos 0) below) ∙ seen_push (take i ls) (get_or ls i (pos 0)) f v

-- a number that is not 0 says one sign
pub says_some : (z : ℤ) → 1 ≤ nat_abs z → (says z true ≡ true) ⊎ (says z false ≡ true)
says_some (pos zero) h = absurd (omega arith)
says_some (pos (suc n)) h = inl refl
says_some (negsuc n) h = inr refl

-- a literal that is seen among the first i was listed at some place before i
pub seen_at : (ls : List ℤ) (i f : ℕ) (v : Bool) → i ≤ length ls → seen (take i ls) f v ≡ true → (j : ℕ) × (j < i) × (nat_abs (get_or ls j (pos 0)) ≡ f + 1)
seen_at ls zero f v h e = absurd (false≢true e)
seen_at ls (suc i) f v h e =
    elim (or_cases (seen (take i ls) f v) (eqb (nat_abs (get_or ls i (pos 0))) (f + 1) && says (get_or ls i (pos 0)) v)
    (sym (seen_more ls i f v (omega arith)) ∙ ap (λ n. seen (take n ls) f v) (add-one i) ∙ e)) [
      | inl p ↦ let r = seen_at ls i f v (omega arith) p in (r.0, omega (arith, r.1), r.2)
      | inr p ↦ (i, omega arith, eqb-true (nat_abs (get_or ls i (pos 0))) (f + 1) (and_parts (eqb (nat_abs (get_or ls i (pos 0))) (f + 1)) (says (get_or ls i (pos 0)) v) p).0)
    ]

-- and one that is listed is seen
pub at_seen : (ls : List ℤ) (i f : ℕ) (v : Bool) → i ≤ length ls → (j : ℕ) → j < i → nat_abs (get_or ls j (pos 0)) ≡ f + 1 → says (get_or ls j (pos 0)) v ≡ true → seen (take i ls) f v ≡ true
at_seen ls zero f v h j l e s = absurd (omega arith)
at_seen ls (suc i) f v h j l e s =
    sym (ap (λ n. seen (take n ls) f v) (add-one i)) ∙ seen_more ls i f v (omega arith) ∙ go (λ k. at_seen ls i f v (omega arith) j k e s) (cases_lt j i)
  where
    go : (j < i → seen (take i ls) f v ≡ true) → (j < i) ⊎ (i ≤ j) → (seen (take i ls) f v || (eqb (nat_abs (get_or ls i (pos 0))) (f + 1) && says (get_or ls i (pos 0)) v)) ≡ true
    go ih (inl k) = or_left (seen (take i ls) f v) _ (ih k)
    go ih (inr k) =
        let same : j ≡ i = omega arith in
        or_right (seen (take i ls) f v) _
        (ap₂ (λ x y. x && y) (eq-eqb (nat_abs (get_or ls i (pos 0))) (f + 1) (ap (λ n. nat_abs (get_or ls n (pos 0))) (sym same) ∙ e))
        (ap (λ n. says (get_or ls n (pos 0)) v) (sym same) ∙ s))

-- a fact of which neither sign is seen was not listed
pub unseen : (ls : List ℤ) (i f : ℕ) → i ≤ length ls → seen (take i ls) f true ≡ false → seen (take i ls) f false ≡ false
    → (j : ℕ) → j < i → nat_abs (get_or ls j (pos 0)) ≡ f + 1 → ⊥
unseen ls i f h p q j l e =
    elim (says_some (get_or ls j (pos 0)) (omega arith)) [
      | inl s ↦ both_ways (seen (take i ls) f true) p (at_seen ls i f true h j l e s)
      | inr s ↦ both_ways (seen (take i ls) f false) q (at_seen ls i f false h j l e s)
    ]
