-- What a stored part of a task shows: at a step below the round its structure has the stored actions, only actions and facts
-- of the task are in it, and where each fact has one value a level is a state.
use Rattle.std.proofs.Common.{◌≡◌, ℕ, ◌^◌, ◌<◌, ◌≤◌, Bool, true, false, cond, ◌&&◌, eqb, ltb, leb, length, get_or, set, sym, ap, ◌∙◌, inl, inr}
use Rattle.std.proofs.lemmas.List.{get_or-set_same, get_or-set_other}
use Rattle.std.proofs.Math.Bool.{and_assoc}
use Rattle.std.proofs.lemmas.Bool.{and_left, and_right, cases_eq, cond-true, cond-false, eq-eqb, ne_eqb, le-leb, le-ltb, lt-ltb}
use Rattle.sets.specs.Bits.{bit}
use Rattle.sets.specs.Counts.{count}
use Rattle.sets.specs.Sets.{among, has, ActionSet, member}
use Rattle.sets.proofs.Counting.{count_ext}
use Rattle.estimators.specs.Tallies.{count_cut}
use Rattle.tasks.specs.Meaning.{Meaning}
use Rattle.tasks.proofs.Packing.{is_packed}
use Rattle.filter.specs.declared.part.Part.{Part}
use Rattle.filter.specs.Parts.{level_at, no_actions, step_at, structure}
use Rattle.filter.specs.Plans.{state_of}
use Rattle.search.specs.Steps.{half, wide}
use Rattle.search.specs.Parts.{OfTask}

module _ (m : Meaning) (p : Part) (of : OfTask m p) where
  pub left_inside : (i a : ℕ) → i < p.round → (structure p).left i a ≡ among (step_at p i) a
  left_inside i a l = ap (λ b. b && among (step_at p i) a) (lt-ltb i p.round l)

  trim_left : (i a : ℕ) → (structure p).left i a ≡ ((ltb i p.round && ltb a m.actions) && (structure p).left i a)
  trim_left i a = ap (λ q. q.left i a) of.trim

  trim_possible : (i f : ℕ) (v : Bool) → (structure p).possible i f v ≡ ((leb i p.round && ltb f m.facts) && (structure p).possible i f v)
  trim_possible i f v = ap (λ q. q.possible i f v) of.trim

  -- past the actions no action is left
  pub left_past : (i a : ℕ) → m.actions ≤ a → (structure p).left i a ≡ false
  left_past i a h = trim_left i a ∙ and_left (ltb i p.round && ltb a m.actions) ((structure p).left i a) (and_right (ltb i p.round) (ltb a m.actions) (le-ltb a m.actions h))

  -- past the facts no value is possible
  pub possible_past : (i f : ℕ) (v : Bool) → m.facts ≤ f → (structure p).possible i f v ≡ false
  possible_past i f v h = trim_possible i f v ∙ and_left (leb i p.round && ltb f m.facts) ((structure p).possible i f v) (and_right (leb i p.round) (ltb f m.facts) (le-ltb f m.facts h))

  pub wide_stored : (i : ℕ) → i < p.round → wide m (structure p) i ≡ ltb 1 (count (among (step_at p i)) 128)
  unfolding wide
  wide_stored i l =
      ap (ltb 1) (sym (count_ext (among (step_at p i)) ((structure p).left i) 128 (λ a _. sym (left_inside i a l)) ∙ count_cut ((structure p).left i) m.actions 128 of.lawful.actions_most (λ a from _. left_past i a from)))

  -- the true values of a level are the state that it shows
  pub state_stored : (j : ℕ) → j ≤ p.round → (level_at p j).trues.bits < 2 ^ 64 → (level_at p j).trues.bits ≡ state_of m (structure p) j
  unfolding has member
  state_stored j l small =
      is_packed 64 (λ f. (structure p).possible j f true) m.facts (level_at p j).trues.bits of.lawful.facts_most small
      (λ f _. shows f) (λ f h. shows f ∙ possible_past j f true h)
    where
      shows : (f : ℕ) → bit (level_at p j).trues.bits f ≡ (structure p).possible j f true
      shows f = ap (λ b. b && bit (level_at p j).trues.bits f) (sym (le-leb j p.round l))

-- the half with only some actions at a step, stored
pub half_stored : (m : Meaning) (p : Part) (i : ℕ) (d : ℕ → Bool) → i < length p.steps → (actions : ActionSet) → ((a : ℕ) → among actions a ≡ (among (step_at p i) a && d a))
    → record { round = p.round; left = λ j a. ltb j p.round && among (get_or (set p.steps i actions) j no_actions) a; possible = (structure p).possible } ≡ half m (structure p) i d
unfolding half
half_stored m p i d room actions is = λ t. record { round = p.round; left = λ j a. left j a t; possible = (structure p).possible }
  where
    left : (j a : ℕ) → (ltb j p.round && among (get_or (set p.steps i actions) j no_actions) a) ≡ cond (eqb j i) ((structure p).left j a && d a) ((structure p).left j a)
    left j a = elim (cases_eq j i) [
      | inl e ↦
          ap (λ s. ltb j p.round && among s a) (ap (λ x. get_or (set p.steps i actions) x no_actions) e ∙ get_or-set_same p.steps i actions no_actions room)
          ∙ ap (λ b. ltb j p.round && b) (is a ∙ ap (λ x. among (step_at p x) a && d a) (sym e))
          ∙ sym (and_assoc (ltb j p.round) (among (step_at p j) a) (d a))
          ∙ sym (cond-true (eqb j i) ((structure p).left j a && d a) ((structure p).left j a) (eq-eqb j i e))
      | inr ne ↦
          ap (λ s. ltb j p.round && among s a) (get_or-set_other p.steps i j actions no_actions ne)
          ∙ sym (cond-false (eqb j i) ((structure p).left j a && d a) ((structure p).left j a) (ne_eqb j i ne))
    ]
