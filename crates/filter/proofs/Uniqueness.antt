-- Two largest structures are below one another, and what is trimmed is equal where it is below both ways.
use Rattle.std.proofs.Common.{◌≡◌, ℕ, ◌<◌, ◌≤◌, Bool, true, false, sym, refl, ap, ◌∙◌, subst, ap₂}
use mathlib.Core.Path.{fun_ext}
use Rattle.std.proofs.lemmas.Bool.{and_parts, ltb-true, leb-true}
use Rattle.tasks.specs.Meaning.{Meaning}
use Rattle.filter.specs.Structures.{Structure, Below, trimmed}
use Rattle.filter.specs.Filtering.Filtered.{kept, wiped}
use Rattle.filter.specs.Theorems.{FilteringHasOneResult}

-- two tests that follow from each other are equal
pub both_follow : (x y : Bool) → (x ≡ true → y ≡ true) → (y ≡ true → x ≡ true) → x ≡ y
both_follow true y p q = sym (p refl)
both_follow false true p q = q refl
both_follow false false p q = refl

-- structures of one round with the same members are equal
pub same_structure : (p q : Structure) → p.round ≡ q.round → ((i a : ℕ) → p.left i a ≡ q.left i a) → ((i f : ℕ) (v : Bool) → p.possible i f v ≡ q.possible i f v) → p ≡ q
same_structure p q r l o =
    ap (λ (k : ℕ). record { round = k; left = p.left; possible = p.possible }) r
    ∙ ap₂ (λ (x : ℕ → ℕ → Bool) (y : ℕ → ℕ → Bool → Bool). record { round = q.round; left = x; possible = y })
    (fun_ext (λ i. fun_ext (λ a. l i a))) (fun_ext (λ i. fun_ext (λ f. fun_ext (λ v. o i f v))))

module _ (m : Meaning) (p q : Structure) (tp : p ≡ trimmed m p) (pq : Below p q) where
  -- what a trimmed structure has is in range
  left_in : (i a : ℕ) → p.left i a ≡ true → i < p.round
  left_in i a e = ltb-true _ _ (and_parts _ _ (and_parts _ _ (sym (ap (λ (s : Structure). s.left i a) tp) ∙ e)).0).0

  possible_in : (i f : ℕ) (v : Bool) → p.possible i f v ≡ true → i ≤ p.round
  possible_in i f v e = leb-true _ _ (and_parts _ _ (and_parts _ _ (sym (ap (λ (s : Structure). s.possible i f v) tp) ∙ e)).0).0

  left_on : (i a : ℕ) → p.left i a ≡ true → q.left i a ≡ true
  left_on i a e = pq.left i a (subst (λ (n : ℕ). i < n) pq.round (left_in i a e)) e

  possible_on : (i f : ℕ) (v : Bool) → p.possible i f v ≡ true → q.possible i f v ≡ true
  possible_on i f v e = pq.possible i f v (subst (λ (n : ℕ). i ≤ n) pq.round (possible_in i f v e)) e

pub below_both_ways : (m : Meaning) (p q : Structure) → p ≡ trimmed m p → q ≡ trimmed m q → Below p q → Below q p → p ≡ q
below_both_ways m p q tp tq pq qp =
    same_structure p q pq.round
    (λ i a. both_follow _ _ (left_on m p q tp pq i a) (left_on m q p tq qp i a))
    (λ i f v. both_follow _ _ (possible_on m p q tp pq i f v) (possible_on m q p tq qp i f v))

pub one_result : FilteringHasOneResult
one_result m p s t q r (kept a large) (kept b other) =
    (a ∙ sym b, below_both_ways m q r large.trim other.trim (other.above q large.consistent large.below) (large.above r other.consistent other.below))
one_result m p s t q r (kept a large) (wiped b none e) = absurd (none q large.consistent large.below)
one_result m p s t q r (wiped a none e) (kept b large) = absurd (none r large.consistent large.below)
one_result m p s t q r (wiped a none e) (wiped b other d) = (a ∙ sym b, e ∙ sym d)
