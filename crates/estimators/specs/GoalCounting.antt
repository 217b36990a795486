-- Goal count is sound. Each goal that is missing in the first state has to be made by some action on the way, and no action
-- makes more of them than the best one; so the actions left, times that, must cover them all.
use Rattle.std.specs.Prelude.{◌≡◌, ℕ, zero, suc, ◌+◌, ◌*◌, ◌≤◌, Bool, true, false, cond, not, ◌&&◌, ◌||◌, List, [], ◌∷◌, length, ℤ, pos, negsuc}
use Rattle.std.proofs.Math.Path.{refl, subst}
use Rattle.std.proofs.Common.{arith}
use Rattle.std.proofs.Math.Nat.{suc-mul}
use Rattle.std.proofs.lemmas.Nat.{mul-le}
use Rattle.std.proofs.lemmas.Bool.{both_ways, ltb-true}
use Rattle.sets.specs.Bits.{bit}
use Rattle.sets.specs.Signs.{says}
use Rattle.sets.specs.Counts.{count}
use Rattle.sets.proofs.Counting.{count_ext, count_none}
use Rattle.tasks.specs.Meaning.{Meaning, Lawful, Three}
use Rattle.tasks.specs.States.{Holds, Applies, Reaches, after, put}
use Rattle.tasks.specs.Layers.{usable_below}
use Rattle.tasks.proofs.Packing.{bit_packed}
use Rattle.estimators.specs.Sound.{Sound}
use Rattle.estimators.specs.Ranges.{most_below}
use Rattle.estimators.specs.GoalCounts.{missing, missing_count, gained, gains, goal_count}
use Rattle.estimators.specs.Tallies.{count_cover, most_at}

-- a goal that holds is not missing
pub met : (z : ℤ) (b : Bool) → Three z → Holds z b → says z (not b) ≡ false
met (pos zero) b three h = refl
met (pos (suc zero)) b three h = rw (h.0 refl)
met (pos (suc (suc n))) b three h = absurd (omega arith)
met (negsuc zero) b three h = rw (h.1 refl)
met (negsuc (suc n)) b three h = absurd (omega arith)

-- a goal that was missing at first and is missing now is missing after an action, or the action makes it
covered : (z w : ℤ) (first now : Bool) → (says z (not first) && says z (not now)) ≡ true
    → ((says z (not first) && says z (not (put w now))) || (says z (not first) && says w (not first))) ≡ true
covered (pos zero) w first now e = absurd (both_ways false refl e)
covered (pos (suc n)) w true now e = absurd (both_ways false refl e)
covered (pos (suc n)) w false true e = absurd (both_ways false refl e)
covered (pos (suc n)) (pos zero) false false e = refl
covered (pos (suc n)) (pos (suc k)) false false e = refl
covered (pos (suc n)) (negsuc k) false false e = refl
covered (negsuc n) w false now e = absurd (both_ways false refl e)
covered (negsuc n) w true false e = absurd (both_ways false refl e)
covered (negsuc n) (pos zero) true true e = refl
covered (negsuc n) (pos (suc k)) true true e = refl
covered (negsuc n) (negsuc k) true true e = refl

module _ (m : Meaning) (law : Lawful m) (first : ℕ) where
  -- goals that were missing at first and are missing in the state
  awaited : ℕ → ℕ → Bool
  awaited s f = missing m first f && missing m s f

  best : ℕ
  best = most_below (gains m first) m.actions

  at_most_best : (a : ℕ) → m.usable a ≡ true → count (gained m first a) m.facts ≤ best
  unfolding gains best
  at_most_best a e =
      let le : gains m first a ≤ best = most_at (gains m first) m.actions a (usable_below m law a e) in
      subst (λ (b : Bool). cond b (count (gained m first a) m.facts) 0 ≤ best) e le

  one_action : (s a : ℕ) → Applies m s a → count (awaited s) m.facts ≤ count (awaited (after m s a)) m.facts + best
  unfolding awaited
  one_action s a ok =
      let cover = count_cover (awaited s) (awaited (after m s a)) (gained m first a) m.facts (λ f lt e.
      rw (bit_packed (λ g. put (m.makes a g) (bit s g)) m.facts f lt) (covered (m.goal f) (m.makes a f) (bit first f) (bit s f) e)) in
      omega (arith, at_most_best a ok.usable)

  all_made : (acts : List ℕ) (s : ℕ) → Reaches m s acts → count (awaited s) m.facts ≤ length acts * best
  unfolding awaited
  all_made [] s r = omega (arith, count_none (awaited s) m.facts (λ f lt. rw (met (m.goal f) (bit s f) (law.goal_three f) (r f lt)) (and_false (missing m first f))))
    where
      and_false : (b : Bool) → (b && false) ≡ false
      and_false true = refl
      and_false false = refl
  all_made (a ∷ rest) s r = omega (arith, one_action s a r.0, all_made rest (after m s a) r.1, suc-mul (length rest) best)

pub goal_count_sound : (m : Meaning) → Lawful m → Sound m (goal_count m)
unfolding goal_count missing_count awaited best
goal_count_sound m law s n e acts few r =
    let short = ltb-true (n * most_below (gains m s) m.actions) (count (missing m s) m.facts) e in
    let same : count (missing m s) m.facts ≡ count (awaited m law s s) m.facts = count_ext (missing m s) (awaited m law s s) m.facts (λ f lt. twice (missing m s f)) in
    let made = all_made m law s acts s r in
    let more = mul-le (length acts) (best m law s) n (best m law s) few (omega arith) in
    omega arith
  where
    twice : (b : Bool) → b ≡ (b && b)
    twice true = refl
    twice false = refl
