-- The cells that a well-formed sheet gives are in their ranges: each is a literal's or 0, and none of the start is 0.
use Rattle.std.proofs.Common.{◌≡◌, ℕ, zero, suc, ◌-◌, ◌*◌, ◌<◌, ◌≤◌, Bool, true, false, cond, eqb, List, [], ◌∷◌, ◌++◌, map, length, get_or, drop, replicate, ℤ, pos, negsuc, nat_abs, IfOk, Ok, Err, Result, sym, refl, ap, ◌∙◌, subst, arith, length-append, length-set}
use lib.ListN.{length-replicate}
use Rattle.std.specs.List.{flat_map, AllByRecursion}
use Rattle.std.proofs.lemmas.Nat.{mul-le}
use Rattle.std.proofs.ByRecursion.{All-append, All-get_or, All-set}
use Rattle.std.proofs.lemmas.List.{get_or_append_left, length-map}
use Rattle.std.proofs.lemmas.Bool.{eqb-false}
use Rattle.sheet.specs.declared.counts.Counts.{Counts}
use Rattle.sheet.specs.declared.refusal.Refusal.{Refusal}
use Rattle.sheet.specs.declared.word.Literal.{Literal}
use Rattle.sheet.specs.Bodies.{low, spread}
use Rattle.sheet.specs.Grammar.{AcceptsExactlyWhatIsSpelled, Body, JobSheet, WellFormed, meaning, zeros}
use Rattle.sheet.specs.Ranges.{Ranged}
use Rattle.sheet.specs.Rows.{cell, put}
use Rattle.sheet.specs.Sheet.{ReadInto, Tables, written}
use Rattle.sheet.specs.Spell.{puts}
use Rattle.sheet.proofs.Law.{lawful}

abbrev Three : ℤ → Type 0
Three z = nat_abs z ≤ 1

abbrev Two : ℤ → Type 0
Two z = nat_abs z ≡ 1

cell_three : (b : Bool) → Three (cell b)
cell_three true = omega arith
cell_three false = omega arith

zeros_three : (n : ℕ) → AllByRecursion Three (replicate n (pos 0))
zeros_three zero = tt
zeros_three (suc n) = (omega arith, zeros_three n)

puts_three : (row : List ℤ) (ls : List Literal) → AllByRecursion Three row → AllByRecursion Three (puts row ls)
puts_three row [] h = h
puts_three row (l ∷ ls) h = puts_three (put row l) ls (All-set Three row l.fact (cell l.holds) (cell_three l.holds) h)

length_puts : (row : List ℤ) (ls : List Literal) → length (puts row ls) ≡ length row
length_puts row [] = refl
length_puts row (l ∷ ls) = length_puts (put row l) ls ∙ length-set row l.fact (cell l.holds)

joined_three : (f : Body → List ℤ) → ((b : Body) → AllByRecursion Three (f b)) → (bs : List Body) → AllByRecursion Three (flat_map f bs)
joined_three f h [] = tt
joined_three f h (b ∷ bs) = All-append Three (f b) (flat_map f bs) (h b) (joined_three f h bs)

low_two : (row : List ℤ) → AllByRecursion Three row → AllByRecursion Two (map low row)
low_two [] h = tt
low_two (z ∷ row) h = (by (eqb (nat_abs z) 0) refl, low_two row h.1)
  where
    by : (b : Bool) → eqb (nat_abs z) 0 ≡ b → nat_abs (cond b (negsuc 0) z) ≡ 1
    by true e = refl
    by false e = let some = eqb-false (nat_abs z) 0 e in omega (arith, h.0)

-- the cells of a sheet, and the zeros after them, in a table
module _ (n : ℕ) (cells table : List ℤ) (i : ℕ) where
  abbrev all : List ℤ
  all = cells ++ replicate (n - length cells) (pos 0)

  spread_at : i < length all → get_or (spread n cells table) i (pos 0) ≡ get_or all i (pos 0)
  spread_at h = get_or_append_left all (drop n table) (pos 0) i h

  spread_three : i < n → AllByRecursion Three cells → Three (get_or (spread n cells table) i (pos 0))
  spread_three h a =
      let long : i < length all = omega (arith, length-append cells (replicate (n - length cells) (pos 0)), length-replicate (n - length cells) (pos 0)) in
      let small = All-get_or Three all i (pos 0) long (All-append Three cells (replicate (n - length cells) (pos 0)) a (zeros_three (n - length cells))) in
      omega (arith, small, ap nat_abs (spread_at long))

  spread_two : i < length cells → AllByRecursion Two cells → Two (get_or (spread n cells table) i (pos 0))
  spread_two h a =
      let long : i < length all = omega (arith, length-append cells (replicate (n - length cells) (pos 0))) in
      ap nat_abs (spread_at long ∙ get_or_append_left cells (replicate (n - length cells) (pos 0)) (pos 0) i h) ∙ All-get_or Two cells i (pos 0) h a

ranged_of : (v : JobSheet) → WellFormed v → (before : Tables) → Ranged (meaning v).counts (written (meaning v).tables before)
ranged_of v w before =
    let F = length v.facts in
    let A = length v.acts in
    let row : (ls : List Literal) → AllByRecursion Three (puts (zeros v) ls) = λ ls. puts_three (zeros v) ls (zeros_three F) in
    let most : A * F ≤ 128 * 64 = mul-le A F 128 64 w.acts_most w.facts_most in
    record {
      limits = (w.some, w.facts_most, w.acts_most, w.bound_most);
      needs_ranged = λ i h. spread_three 8192 (meaning v).tables.needs before.needs i (omega (arith, h, most)) (joined_three (λ b. puts (zeros v) b.needs) (λ b. row b.needs) v.bodies);
      makes_ranged = λ i h. spread_three 8192 (meaning v).tables.makes before.makes i (omega (arith, h, most)) (joined_three (λ b. puts (zeros v) b.makes) (λ b. row b.makes) v.bodies);
      start_ranged = λ f h. spread_two 64 (meaning v).tables.start before.start f
          (omega (arith, h, length-map (puts (zeros v) v.start) low, length_puts (zeros v) v.start, length-replicate F (pos 0))) (low_two (puts (zeros v) v.start) (row v.start));
      goal_ranged = λ f h. spread_three 64 (meaning v).tables.goal before.goal f (omega (arith, h, w.facts_most)) (row v.goal);
    }

ranged : (bs : List ℕ) (before after : Tables) (r : Result Counts Refusal) → AcceptsExactlyWhatIsSpelled bs before after r → IfOk r (λ c. Ranged c after)
ranged bs before after (Ok c) h =
    let v = h.0 in
    subst (λ k. Ranged k after) (sym h.3) (subst (λ t. Ranged (meaning v).counts t) (sym h.4) (ranged_of v h.1 before))
ranged bs before after (Err e) h = tt

pub ranged_read : (bs : List ℕ) (before after : Tables) (r : Result Counts Refusal) → ReadInto bs before after r → IfOk r (λ c. Ranged c after)
ranged_read bs before after r h = ranged bs before after r (lawful bs before after r h)
