-- A slice that a loop changes item by item.
use Rattle.std.proofs.Common.{◌≡◌, ℕ, ◌+◌, ◌-◌, ◌<◌, ◌≤◌, List, ◌++◌, length, get_or, set, take, drop, refl, ap, ◌∙◌, inl, inr, arith, length-set, get_or-set_other, get_or-set_same}
use Rattle.std.proofs.Math.ListN.{get_or-append}
use Rattle.std.proofs.lemmas.List.{get_or-take, get_or-drop, get_or-append_right, length-take-le}
use Rattle.std.proofs.lemmas.Bool.{cases_eq}

-- the first n items stand in the relation R to those that they were, and the others are as they were
pub record Changed {A : Type 0} (none : A) (R : A → A → Type 0) (was now : List A) (n : ℕ) : Type 0 where
  pub kept : length now ≡ length was
  pub done : (k : ℕ) → k < n → R (get_or was k none) (get_or now k none)
  pub rest : (k : ℕ) → n ≤ k → get_or now k none ≡ get_or was k none

pub changed_none : {A : Type 0} (none : A) (R : A → A → Type 0) (was : List A) → Changed none R was was 0
changed_none none R was = record { kept = refl; done = λ k l. absurd (omega arith); rest = λ k l. refl }

pub changed_more : {A : Type 0} (none : A) (R : A → A → Type 0) (was now : List A) (n : ℕ) (v : A)
    → Changed none R was now n → n < length now → R (get_or now n none) v → Changed none R was (set now n v) (n + 1)
changed_more none R was now n v c lt r = record {
  kept = length-set now n v ∙ c.kept;
  done = λ k l. elim (cases_eq k n) [
    | inl e ↦ rw (e, get_or-set_same now n v none lt) (rw (c.rest n (omega arith)) at r)
    | inr d ↦ rw (get_or-set_other now n k v none d) (c.done k (omega arith))
  ];
  rest = λ k l. get_or-set_other now n k v none (λ e. omega arith) ∙ c.rest k (omega arith);
}

-- the first r items of a list, all of them changed, before the rest of the list
module _ {A : Type 0} (none : A) (R : A → A → Type 0) (whole now : List A) (r n : ℕ) (le : r ≤ length whole) (end : length (take r whole) ≤ n) (c : Changed none R (take r whole) now n) where
  long : length now ≡ r
  long = c.kept ∙ length-take-le r whole le

  pub changed_front : (k : ℕ) → k < r → R (get_or whole k none) (get_or (now ++ drop r whole) k none)
  changed_front k l = rw (get_or-append now (drop r whole) none k (omega (arith, long))) (rw (get_or-take r whole k none l) at (c.done k (omega (arith, length-take-le r whole le))))

  pub changed_past : (k : ℕ) → r ≤ k → get_or (now ++ drop r whole) k none ≡ get_or whole k none
  changed_past k l =
      let e : r + (k - r) ≡ k = omega arith in
      get_or-append_right now (drop r whole) r k none long l ∙ get_or-drop r whole (k - r) none ∙ ap (λ (i : ℕ). get_or whole i none) e
