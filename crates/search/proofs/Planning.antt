-- The plan of a part with an action left at each step: the lowest action of each step, in the order of the steps.
use Rattle.std.proofs.Common.{◌≡◌, ℕ, zero, suc, ◌+◌, ◌<◌, ◌≤◌, true, false, ◌⊎◌, [], ◌∷◌, ◌++◌, sym, ap, ◌∙◌, inl, inr, arith}
use Rattle.std.proofs.lemmas.Bool.{both_ways, cases_Bool, cases_lt}
use Rattle.sets.specs.Counts.{Lowest, count}
use Rattle.sets.proofs.Counting.{none_count}
use Rattle.sets.specs.Sets.{among}
use Rattle.tasks.specs.Meaning.{Meaning}
use Rattle.filter.specs.declared.part.Part.{Part}
use Rattle.filter.specs.Filtering.{Consistent}
use Rattle.filter.specs.Parts.{step_at, structure}
use Rattle.filter.specs.Structures.{Structure}
use Rattle.search.specs.Steps.{lowest, plan_from}
use Rattle.search.specs.Parts.{OfTask}
use Rattle.search.proofs.Counted.{count_member}
use Rattle.search.proofs.Lowest.{lowest_is}
use Rattle.search.proofs.Partial.{left_inside, left_past}

pub plan_more : (m : Meaning) (q : Structure) (n s : ℕ) → plan_from m q (n + 1) s ≡ plan_from m q n s ++ lowest m.actions (q.left (s + n)) ∷ []
unfolding plan_from
plan_more m q zero s = ap (λ i. lowest m.actions (q.left i) ∷ []) (let z : s ≡ s + 0 = omega arith in z)
plan_more m q (suc n) s =
    ap (λ k. plan_from m q k s) (let e : suc n + 1 ≡ suc (n + 1) = omega arith in e)
    ∙ ap (λ xs. lowest m.actions (q.left s) ∷ xs) (plan_more m q n (suc s) ∙ ap (λ i. plan_from m q n (suc s) ++ lowest m.actions (q.left i) ∷ []) (let z : suc s + n ≡ s + suc n = omega arith in z))

module _ (m : Meaning) (p : Part) (of : OfTask m p) (i : ℕ) (inside : i < p.round) where
  -- the lowest stored action is the lowest left
  pub lowest_stored : (a : ℕ) → Lowest (among (step_at p i)) a → a ≡ lowest m.actions ((structure p).left i)
  lowest_stored a low = sym (lowest_is m.actions ((structure p).left i) a (let l = below (cases_lt a m.actions) in omega arith) (λ _. here) none)
    where
      here : (structure p).left i a ≡ true
      here = left_inside m p of i a inside ∙ low.member

      below : (a < m.actions) ⊎ (m.actions ≤ a) → a < m.actions
      below (inl l) = l
      below (inr l) = absurd (both_ways ((structure p).left i a) (left_past m p of i a l) here)

      none : (b : ℕ) → b < a → (structure p).left i b ≡ false
      none b l = elim (cases_Bool ((structure p).left i b)) [
        | inl e ↦ absurd (let k = low.least b (sym (left_inside m p of i b inside) ∙ e) in omega arith)
        | inr e ↦ e
      ]

  -- a step of a consistent part has an action
  pub some_action : Consistent m (structure p) → (a : ℕ) × (among (step_at p i) a ≡ true)
  some_action good = go (cases_lt 0 (count ((structure p).left i) m.actions))
    where
      go : (0 < count ((structure p).left i) m.actions) ⊎ (count ((structure p).left i) m.actions ≤ 0) → (a : ℕ) × (among (step_at p i) a ≡ true)
      go (inl l) = let w = count_member ((structure p).left i) m.actions (omega arith) in (w.0, sym (left_inside m p of i w.0 inside) ∙ w.2)
      go (inr l) = absurd (good.action i inside (λ a. elim (cases_lt a m.actions) [
        | inl k ↦ none_count ((structure p).left i) m.actions a (omega arith) k
        | inr k ↦ left_past m p of i a k
      ]))
