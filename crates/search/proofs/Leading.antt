-- The single first steps of a consistent part: their actions, in order, lead from the start to the state at the level after them.
-- Cut off there, and with no goals, the part is a plan of its own.
use Rattle.std.proofs.Common.{◌≡◌, ℕ, zero, suc, ◌+◌, ◌<◌, ◌≤◌, true, false, ◌⊎◌, List, [], ◌∷◌, ◌++◌, length, get_or, drop, pos, sym, refl, ap, ◌∙◌, subst, inl, inr, arith}
use Rattle.std.proofs.lemmas.Bool.{cases_Bool, cases_lt, lt-ltb, eq-eqb, and_from}
use Rattle.tasks.specs.Meaning.{Meaning, Lawful}
use Rattle.tasks.specs.States.{Meets, after, Reaches, Solves, start_state, state_at}
use Rattle.filter.specs.Structures.{Structure}
use Rattle.filter.specs.Rules.{stage, Settled}
use Rattle.filter.specs.Filtering.{Consistent, Largest}
use Rattle.filter.specs.Plans.{Inside, Only, Fixes, Anchored, state_of}
use Rattle.filter.proofs.Values.{never}
use Rattle.filter.proofs.Tracing.{state_next}
use Rattle.filter.proofs.Singles.{level_state, single_plan}
use Rattle.search.specs.Steps.{lowest, wide, plan_from}
use Rattle.search.proofs.Counted.{count_one}
use Rattle.search.proofs.Lowest.{below_lowest, lowest_passes}
use Rattle.search.proofs.Halves.{action_inside, single_few}

-- the goals hold after the last action
pub goals_at : (m : Meaning) (s : ℕ) (acts : List ℕ) → Reaches m s acts → Meets m.facts m.goal (state_at m s acts (length acts))
goals_at m s [] r = r
goals_at m s (a ∷ acts) r = goals_at m (after m s a) acts r.1

-- the rest of a sequence reaches the goals from the state where it begins
pub rest_reaches : (m : Meaning) (s : ℕ) (acts : List ℕ) (j : ℕ) → Reaches m s acts → Reaches m (state_at m s acts j) (drop j acts)
rest_reaches m s acts zero r = r
rest_reaches m s [] (suc j) r = r
rest_reaches m s (a ∷ acts) (suc j) r = rest_reaches m (after m s a) acts j r.1

module _ (m : Meaning) (q : Structure) where
  pub plan_long : (n i : ℕ) → length (plan_from m q n i) ≡ n
  unfolding plan_from
  plan_long zero i = refl
  plan_long (suc n) i = ap suc (plan_long n (suc i))

  plan_at : (n i j : ℕ) → j < n → get_or (plan_from m q n i) j 0 ≡ lowest m.actions (q.left (i + j))
  unfolding plan_from
  plan_at zero i j lt = absurd (omega arith)
  plan_at (suc n) i zero lt = ap (λ (x : ℕ). lowest m.actions (q.left x)) (let e : i ≡ i + 0 = omega arith in e)
  plan_at (suc n) i (suc j) lt = plan_at n (suc i) j (omega arith) ∙ ap (λ (x : ℕ). lowest m.actions (q.left x)) (let e : suc i + j ≡ i + suc j = omega arith in e)

-- a step that is not wide has one action, the lowest
pub only_lowest : (m : Meaning) (p q : Structure) → Largest m p q → (i : ℕ) → i < q.round → wide m q i ≡ false → Only q i (lowest m.actions (q.left i))
only_lowest m p q large i lt narrow = go (cases_lt (lowest m.actions (q.left i)) m.actions)
  where
    n : ℕ
    n = m.actions

    off : n ≤ lowest n (q.left i) → (a : ℕ) → (q.left i a ≡ true) ⊎ (q.left i a ≡ false) → q.left i a ≡ false
    off le a (inl e) = let l = action_inside m p q large i a e in below_lowest n (q.left i) a (omega arith)
    off le a (inr e) = e

    go : (lowest n (q.left i) < n) ⊎ (n ≤ lowest n (q.left i)) → Only q i (lowest n (q.left i))
    go (inl l) =
        let there = lowest_passes n (q.left i) l in
        record { there = there; alone = λ b e. count_one (q.left i) n b (lowest n (q.left i)) (single_few m q i narrow) (action_inside m p q large i b e) l e there }
    go (inr l) = absurd (large.consistent.action i lt (λ a. off l a (cases_Bool (q.left i a))))

pub fixes : (m : Meaning) (p q : Structure) → Largest m p q → (n : ℕ) → n ≤ q.round → ((j : ℕ) → j < n → wide m q j ≡ false) → Fixes q (plan_from m q n 0)
fixes m p q large n le single i lt =
    let below : i < n = subst (λ (x : ℕ). i < x) (plan_long m q n 0) lt in
    subst (λ (a : ℕ). Only q i a) (sym (plan_at m q n 0 i below ∙ ap (λ (x : ℕ). lowest m.actions (q.left x)) (let e : 0 + i ≡ i = omega arith in e)))
    (only_lowest m p q large i (omega arith) (single i below))

-- the task without its goals
abbrev aimless : Meaning → Meaning
aimless m = record { facts = m.facts; actions = m.actions; usable = m.usable; needs = m.needs; makes = m.makes; start = m.start; goal = λ f. pos 0 }

aimless_lawful : (m : Meaning) → Lawful m → Lawful (aimless m)
aimless_lawful m lw = record {
  facts_some = lw.facts_some;
  facts_most = lw.facts_most;
  actions_most = lw.actions_most;
  needs_three = lw.needs_three;
  makes_three = lw.makes_three;
  goal_three = λ f. omega arith;
  start_two = lw.start_two;
  usable_past = lw.usable_past;
  needs_past_action = lw.needs_past_action;
  needs_past_fact = lw.needs_past_fact;
  makes_past_action = lw.makes_past_action;
  makes_past_fact = lw.makes_past_fact;
  start_past = lw.start_past;
  goal_past = λ f le. refl;
}

-- the structure cut off after n steps
abbrev cut : Structure → ℕ → Structure
cut q n = record { round = n; left = q.left; possible = q.possible }

module _ (m : Meaning) (lw : Lawful m) (q : Structure) (co : Consistent m q) (an : Anchored m q) (way : List ℕ) (le : length way ≤ q.round) (fx : Fixes q way) where
  cut_settled : (i : ℕ) → i < length way → Settled (aimless m) (stage (cut q (length way)) i)
  cut_settled i lt =
      let st = co.closed i (omega arith) in
      record {
        neither_possible_before_nor_made = st.neither_possible_before_nor_made;
        opposite_always_made = st.opposite_always_made;
        neither_possible_after_nor_undone = st.neither_possible_after_nor_undone;
        opposite_always_needed = st.opposite_always_needed;
        needs_the_impossible = st.needs_the_impossible;
        makes_the_impossible = st.makes_the_impossible;
        misses_a_required_change = st.misses_a_required_change;
      }

  alone : Solves (aimless m) way
  alone = single_plan (aimless m) (aimless_lawful m lw) (cut q (length way))
      (record { closed = cut_settled; action = λ i lt. co.action i (omega arith); value = λ i f l. co.value i f (omega arith) })
      (record { start = an.start; goal = λ f v lt e. (λ z. never cc, λ z. never cc); usable = λ i a lt. an.usable i a (omega arith) })
      way refl (λ i lt. record { there = (fx i lt).there; alone = (fx i lt).alone })

  joined : (s : ℕ) (acts rest : List ℕ) → Reaches (aimless m) s acts → Reaches m (state_at m s acts (length acts)) rest → Reaches m s (acts ++ rest)
  joined s [] rest r t = t
  joined s (a ∷ acts) rest r t = (record { usable = r.0.usable; met = r.0.met }, joined (after m s a) acts rest r.1 t)

  -- what reaches the goals from the level after the single steps goes on from them
  pub leads : (rest : List ℕ) → Reaches m (state_of m q (length way)) rest → Solves m (way ++ rest)
  leads rest r = joined (start_state m) way rest alone (subst (λ (s : ℕ). Reaches m s rest) (level_state m lw q co an way le fx (length way) (omega arith)) r)

  -- a plan inside begins with the single steps, and so passes their states
  same_way : (acts : List ℕ) → Inside m q acts → (j : ℕ) → j < length way → get_or acts j 0 ≡ get_or way j 0
  same_way acts s j lt =
      let below : j < length acts = omega (arith, s.round) in
      (fx j lt).alone (get_or acts j 0) (s.left j (get_or acts j 0) (omega arith) (and_from _ _ (lt-ltb j (length acts) below) (eq-eqb _ _ refl)))

  same_states : (acts : List ℕ) → Inside m q acts → (j : ℕ) → j ≤ length way → state_at m (start_state m) acts j ≡ state_at m (start_state m) way j
  same_states acts s zero l = refl
  same_states acts s (suc j) l =
      let below : j < length acts = omega (arith, s.round) in
      state_next m (start_state m) acts j below ∙ ap (λ x. after m x (get_or acts j 0)) (same_states acts s j (omega arith)) ∙ ap (λ x. after m (state_at m (start_state m) way j) x) (same_way acts s j l)
      ∙ sym (state_next m (start_state m) way j l)

  pub passes : (acts : List ℕ) → Inside m q acts → (j : ℕ) → j ≤ length way → state_at m (start_state m) acts j ≡ state_of m q j
  passes acts s j l = same_states acts s j l ∙ sym (level_state m lw q co an way le fx j l)
