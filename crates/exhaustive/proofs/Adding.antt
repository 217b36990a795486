-- Sums: a part of a sum is at most the sum.
use Rattle.std.proofs.Common.{ℕ, zero, suc, ◌<◌, ◌≤◌, ap, inl, inr, arith}
use Rattle.std.proofs.lemmas.Bool.{cases_eq}
use Rattle.exhaustive.specs.Sequences.{sum}

pub sum_part : (number : ℕ → ℕ) (a n : ℕ) → a < n → sum number (suc a) ≤ sum number n
sum_part number a zero h = absurd (omega arith)
sum_part number a (suc n) h = elim (cases_eq a n) [
  | inl e ↦ omega (arith, ap (sum number) e, ap number e)
  | inr ne ↦ let below : a < n = omega arith in omega (arith, sum_part number a n below)
]
