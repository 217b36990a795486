-- One literal more of a list that starts a task anew: it joins the set where its fact is not in it yet, and where it is,
-- or the literal is 0 or beyond the facts, the list is refused.
use Rattle.std.proofs.Common.{◌≡◌, ℕ, zero, suc, ◌+◌, ◌-◌, ◌<◌, ◌≤◌, Bool, true, false, ◌&&◌, ◌||◌, eqb, ltb, ◌⊎◌, List, length, get_or, take, ℤ, pos, negsuc, neg_ℤ, nat_abs, sym, refl, ap, ◌∙◌, inl, inr, arith, below_more}
use Rattle.std.proofs.lemmas.Bool.{cases_Bool}
use Rattle.std.proofs.lemmas.Bool.Decides.{nat_tests}
use Rattle.sets.specs.Sets.{has}
use Rattle.sets.specs.Signs.{says}
use Rattle.sets.specs.declared.literals.Literals.{Literals}
use Rattle.tasks.specs.Restarts.{Within, Apart, Fresh, Joined, seen}
use Rattle.tasks.proofs.Listing.{seen_at, seen_more, unseen}

pub abs_opposite : (z : ℤ) → nat_abs (neg_ℤ z) ≡ nat_abs z
abs_opposite (pos zero) = refl
abs_opposite (pos (suc n)) = refl
abs_opposite (negsuc n) = refl

-- a sign is that of the literal or that of its opposite
pub either_sign : (z : ℤ) → 1 ≤ nat_abs z → (v : Bool) → (v ≡ says z true) ⊎ (v ≡ says (neg_ℤ z) true)
either_sign (pos zero) h v = absurd (omega arith)
either_sign (pos (suc n)) h true = inl refl
either_sign (pos (suc n)) h false = inr refl
either_sign (negsuc n) h true = inr refl
either_sign (negsuc n) h false = inl refl

pub same_place : (g f n : ℕ) → f + 1 ≡ n → n ≤ 64 → (ltb f 64 && eqb g f) ≡ eqb n (g + 1)
same_place g f n e h = grind (arith, nat_tests)

-- the numbers before i are in the set, within the facts and apart
pub record Read (facts : ℕ) (ls : List ℤ) (i : ℕ) (set : Literals) : Type 0 where
  pub short : i ≤ length ls
  pub within : (k : ℕ) → k < i → (1 ≤ nat_abs (get_or ls k (pos 0))) × (nat_abs (get_or ls k (pos 0)) ≤ facts)
  pub apart : (k : ℕ) → k < i → (j : ℕ) → j < k → nat_abs (get_or ls j (pos 0)) ≡ nat_abs (get_or ls k (pos 0)) → ⊥
  pub is : (f : ℕ) (v : Bool) → has set f v ≡ seen (take i ls) f v

module _ (facts : ℕ) (ls : List ℤ) (i : ℕ) (set : Literals) (r : Read facts ls i set) (in_List : i < length ls) where
  -- a literal whose number is n stands before i where its fact is in the set
  pub read_more : (more : Literals) → Fresh facts set (get_or ls i (pos 0)) → Joined set (get_or ls i (pos 0)) more → Read facts ls (i + 1) more
  read_more more (some, few, fresh) joins = record {
    short = omega arith;
    within = below_more (λ k. (1 ≤ nat_abs (get_or ls k (pos 0))) × (nat_abs (get_or ls k (pos 0)) ≤ facts)) i r.within (some, few);
    apart = below_more (λ k. (j : ℕ) → j < k → nat_abs (get_or ls j (pos 0)) ≡ nat_abs (get_or ls k (pos 0)) → ⊥) i r.apart here;
    is = λ f v. joins f v ∙ ap (λ b. b || (eqb (nat_abs (get_or ls i (pos 0))) (f + 1) && says (get_or ls i (pos 0)) v)) (r.is f v) ∙ sym (seen_more ls i f v in_List);
  }
    where
      here : (j : ℕ) → j < i → nat_abs (get_or ls j (pos 0)) ≡ nat_abs (get_or ls i (pos 0)) → ⊥
      here j l e =
          let f = nat_abs (get_or ls i (pos 0)) - 1 in
          let n : nat_abs (get_or ls i (pos 0)) ≡ f + 1 = omega arith in
          unseen ls i f r.short (sym (r.is f true) ∙ fresh f true n) (sym (r.is f false) ∙ fresh f false n) j l (e ∙ n)

  -- a literal that is not fresh: the list is not within the facts, or not apart
  pub not_fresh : (Fresh facts set (get_or ls i (pos 0)) → ⊥) → Within facts ls × Apart ls → ⊥
  not_fresh stale (within, apart) = stale ((within i in_List).0, (within i in_List).1, λ f v n. unlisted f v n (cases_Bool (has set f v)))
    where
      unlisted : (f : ℕ) (v : Bool) → nat_abs (get_or ls i (pos 0)) ≡ f + 1 → (has set f v ≡ true) ⊎ (has set f v ≡ false) → has set f v ≡ false
      unlisted f v n (inl e) =
          let at = seen_at ls i f v r.short (sym (r.is f v) ∙ e) in
          absurd (apart i in_List at.0 at.1 (at.2 ∙ sym n))
      unlisted f v n (inr e) = e

-- the set with the literal of a number is the set with one literal more
pub joined_with : (set more : Literals) (l z : ℤ) (f : ℕ) → z ≡ l → f + 1 ≡ nat_abs l → nat_abs l ≤ 64
    → ((g : ℕ) (v : Bool) → has more g v ≡ (has set g v || ((ltb f 64 && eqb g f) && says z v))) → Joined set l more
joined_with set more l z f is place few adds g v =
    adds g v ∙ ap (λ b. has set g v || (b && says z v)) (same_place g f (nat_abs l) place few)
    ∙ ap (λ x. has set g v || (eqb (nat_abs l) (g + 1) && says x v)) is
