-- The words that goal count adds up are those of its definition: the goals that do not hold, those of them that an action
-- makes, and the largest gain, of which only the comparison with the missing goals matters.
use Rattle.std.proofs.Common.{◌≡◌, ℕ, zero, suc, ◌*◌, ◌<◌, ◌≤◌, max, Bool, true, false, not, ◌&&◌, ◌||◌, ◌⊎◌, length, get_or, ℤ, pos, negsuc, sym, refl, ap, ◌∙◌, inl, inr, mul-zero, arith, MatchBool}
use Rattle.std.specs.List.{AllWithin, HoldsAt}
use Rattle.std.proofs.lemmas.List.Elements.{All-from_all_within}
use Rattle.std.proofs.lemmas.Nat.{mul-le}
use Rattle.std.proofs.lemmas.Bool.{cases_Bool, cases_lt, le-ltb, lt-ltb}
use Rattle.sets.specs.Bits.{bit}
use Rattle.sets.specs.Counts.{count}
use Rattle.sets.specs.Sets.{ActionSet, among, has}
use Rattle.sets.specs.Members.{members}
use Rattle.sets.specs.Signs.{says, is}
use Rattle.sets.specs.declared.literals.Literals.{Literals}
use Rattle.sets.proofs.Counting.{count_ext}
use Rattle.sets.proofs.Listing.{listed_only, on_all}
use Rattle.tasks.specs.Meaning.{Meaning, Lawful}
use Rattle.tasks.specs.Layers.{usable_below}
use Rattle.estimators.specs.Ranges.{most_below}
use Rattle.estimators.specs.GoalCounts.{missing, missing_count, gained, gains, goal_count}
use Rattle.estimators.specs.Tallies.{count_cut, most_at}

-- a literal that is not among those of the state
pub other_value : (z : ℤ) (v b low : Bool) → (low ≡ false → z ≡ pos 0) → (says z v && not (low && is v b)) ≡ (says z v && is (not v) b)
other_value z true b true past = refl
other_value z false true true past = refl
other_value z false false true past = refl
other_value z v b false past = rw (past refl)

wanted : (z : ℤ) (b : Bool) → ((says z true && is false b) || (says z false && is true b)) ≡ says z (not b)
wanted (pos zero) b = refl
wanted (pos (suc n)) true = refl
wanted (pos (suc n)) false = refl
wanted (negsuc n) true = refl
wanted (negsuc n) false = refl

makes_wanted : (z w : ℤ) (b : Bool) → ((says w true && (says z true && is false b)) || (says w false && (says z false && is true b))) ≡ (says z (not b) && says w (not b))
makes_wanted (pos zero) (pos zero) b = refl
makes_wanted (pos zero) (pos (suc k)) b = refl
makes_wanted (pos zero) (negsuc k) b = refl
makes_wanted (pos (suc n)) (pos zero) true = refl
makes_wanted (pos (suc n)) (pos zero) false = refl
makes_wanted (pos (suc n)) (pos (suc k)) true = refl
makes_wanted (pos (suc n)) (pos (suc k)) false = refl
makes_wanted (pos (suc n)) (negsuc k) true = refl
makes_wanted (pos (suc n)) (negsuc k) false = refl
makes_wanted (negsuc n) (pos zero) true = refl
makes_wanted (negsuc n) (pos zero) false = refl
makes_wanted (negsuc n) (pos (suc k)) true = refl
makes_wanted (negsuc n) (pos (suc k)) false = refl
makes_wanted (negsuc n) (negsuc k) true = refl
makes_wanted (negsuc n) (negsuc k) false = refl

-- the set has the goals that do not hold in the state
abbrev pub Missing : Meaning → ℕ → Literals → Type 0
Missing m s set = (f : ℕ) (v : Bool) → has set f v ≡ (says (m.goal f) v && is (not v) (bit s f))

-- the action makes a literal of the set
abbrev pub tally : Meaning → ℕ → Literals → ℕ → Bool
tally m a set f = (says (m.makes a f) true && has set f true) || (says (m.makes a f) false && has set f false)

module _ (m : Meaning) (law : Lawful m) (s : ℕ) (set : Literals) (is_missing : Missing m s set) where
  pub missing_many : count (λ f. has set f true || has set f false) 64 ≡ missing_count m s
  unfolding missing_count
  missing_many =
      count_ext (λ f. has set f true || has set f false) (missing m s) 64 (λ f lt. rw (is_missing f true, is_missing f false) (wanted (m.goal f) (bit s f)))
      ∙ count_cut (missing m s) m.facts 64 law.facts_most (λ f past lt. rw (law.goal_past f past))

  -- how many of its literals a usable action makes
  pub gained_many : (a : ℕ) → m.usable a ≡ true → count (tally m a set) 64 ≡ gains m s a
  unfolding gains
  gained_many a can =
      count_ext (tally m a set) (gained m s a) 64 (λ f lt. rw (is_missing f true, is_missing f false) (makes_wanted (m.goal f) (m.makes a f) (bit s f)))
      ∙ count_cut (gained m s a) m.facts 64 law.facts_most (λ f past lt. rw (law.goal_past f past))
      ∙ rw can

-- an action that is not usable gains nothing
pub idle_gain : (m : Meaning) (s a : ℕ) → m.usable a ≡ false → gains m s a ≡ 0
unfolding gains
idle_gain m s a e = rw e

most_times : (left : ℕ) (g : ℕ → ℕ) (n many : ℕ) → 0 < many → ((a : ℕ) → a < n → left * g a < many) → left * most_below g n < many
unfolding most_below
most_times left g zero many some each = omega (arith, mul-zero left)
most_times left g (suc n) many some each = go (each n (omega arith)) (most_times left g n many some (λ a lt. each a (omega arith))) (cases_lt (g n) (most_below g n))
  where
    go : left * g n < many → left * most_below g n < many → (g n < most_below g n) ⊎ (most_below g n ≤ g n) → left * max (g n) (most_below g n) < many
    go here lower (inl lt) = let e : max (g n) (most_below g n) ≡ most_below g n = omega arith in rw e lower
    go here lower (inr le) = let e : max (g n) (most_below g n) ≡ g n = omega arith in rw e here

module _ (m : Meaning) (s left : ℕ) where
  pub none_missing : missing_count m s ≡ 0 → false ≡ goal_count m s left
  unfolding goal_count
  none_missing e = sym (le-ltb _ (missing_count m s) (omega arith))

  pub enough : (a : ℕ) → a < m.actions → missing_count m s ≤ left * gains m s a → false ≡ goal_count m s left
  unfolding goal_count
  enough a lt le = sym (le-ltb _ (missing_count m s) (omega (arith, mul-le left (gains m s a) left (most_below (gains m s) m.actions) (omega arith) (most_at (gains m s) m.actions a lt))))

  pub too_few : 0 < missing_count m s → ((a : ℕ) → a < m.actions → left * gains m s a < missing_count m s) → true ≡ goal_count m s left
  unfolding goal_count
  too_few some each = sym (lt-ltb _ (missing_count m s) (most_times left (gains m s) m.actions (missing_count m s) some each))

-- what is asked of each usable action decides
module _ (m : Meaning) (law : Lawful m) (s left many : ℕ) (is_many : many ≡ missing_count m s) (some : 0 < many) (usable : ActionSet) (used : (a : ℕ) → among usable a ≡ m.usable a) where
  pub judged : (r : Bool) (gain : ℕ → ℕ) → ((a : ℕ) → m.usable a ≡ true → gain a ≡ gains m s a)
      → MatchBool r (AllWithin (λ a. left * gain a < many) (members (λ n. n) usable) 0 (length (members (λ n. n) usable)))
      ((k : ℕ) × (k < length (members (λ n. n) usable)) × HoldsAt (λ a. many ≤ left * gain a) (members (λ n. n) usable) k)
      → r ≡ goal_count m s left
  judged true gain is few = too_few m s left (omega arith) (λ a lt. elim (cases_Bool (m.usable a)) [
    | inl can ↦
        let each = All-from_all_within (λ b. left * gain b < many) (members (λ n. n) usable) few in
        let below : left * gain a < many = (on_all (λ n. n) usable (λ b. left * gain b < many)).0 each a (used a ∙ can) in
        omega (arith, ap (λ x. left * x) (is a can))
    | inr cannot ↦ omega (arith, ap (λ x. left * x) (idle_gain m s a cannot), mul-zero left)
  ])
  judged false gain is (k, lt, at) =
      let a = get_or (members (λ n. n) usable) k 0 in
      let can : m.usable a ≡ true = sym (used a) ∙ listed_only (λ n. n) usable k 0 lt in
      let reached : many ≤ left * gain a = at 0 in
      enough m s left a (usable_below m law a can) (omega (arith, ap (λ x. left * x) (is a can)))
