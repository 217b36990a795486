-- One turn: a revised stage in place narrows the part, and each stage that is not due is consistent: revised with the
-- level before it unchanged, or not touched at all.
use Rattle.std.proofs.Common.{◌≡◌, ℕ, suc, ◌<◌, ◌≤◌, Bool, true, false, ◌||◌, ltb, ◌⊎◌, Some, sym, refl, ◌∙◌, subst, inl, inr, arith}
use Rattle.std.proofs.lemmas.Bool.{both_ways, cases_eq, cases_Bool, or_cases, or_left, or_right, ltb-true, lt-ltb, false_from_ne_true}
use Rattle.sets.specs.Sets.{has, among, StageSet, marked}
use Rattle.sets.specs.declared.literals.Literals.{Literals}
use Rattle.tasks.specs.Meaning.{Meaning}
use Rattle.filter.specs.declared.part.Part.{Part}
use Rattle.filter.specs.declared.stage.StageMasks.{StageMasks}
use Rattle.filter.specs.Structures.{Structure, Below}
use Rattle.filter.specs.Rules.{stage}
use Rattle.filter.specs.Filtering.{Consistent, ConsistentStage}
use Rattle.filter.specs.Kernel.{Covers, WholeStage}
use Rattle.filter.specs.Parts.{step_at, level_at}
use Rattle.filter.specs.Revising.{Revised, StageBelow, view}
use Rattle.filter.specs.Turns.{stage_at, raw, Placed, weight, Factual, Touched, Narrowed, Turned}
use Rattle.filter.proofs.Placing.{at_level, at_step, step_other, stage_here, same_past, weighs, lighter}
use Rattle.filter.proofs.Revision.{down}

-- what one of two has, one of two larger ones has
pub rise : (a b c d : Bool) → (a ≡ true → c ≡ true) → (b ≡ true → d ≡ true) → (a || b) ≡ true → (c || d) ≡ true
rise a b c d p q h = elim (or_cases a b h) [ inl e ↦ or_left c d (p e) | inr e ↦ or_right c d (q e) ]

-- a value of each fact, whichever is asked for first
pub covering : (facts : ℕ) (all v : Literals) → ((f : ℕ) (s : Bool) → has all f s ≡ ltb f facts) → ((f : ℕ) → f < facts → (has v f true || has v f false) ≡ true) → Covers v all
covering facts all v is h f true e = h f (ltb-true _ _ (sym (is f true) ∙ e))
covering facts all v is h f false e = turned (has v f true) (has v f false) (h f (ltb-true _ _ (sym (is f false) ∙ e)))
  where
    turned : (x y : Bool) → (x || y) ≡ true → (y || x) ≡ true
    turned x y k = elim (or_cases x y k) [ inl z ↦ or_right y x z | inr z ↦ or_left y x z ]

pub covered : (facts : ℕ) (all v : Literals) → ((f : ℕ) (s : Bool) → has all f s ≡ ltb f facts) → Covers v all → (f : ℕ) → f < facts → (has v f true || has v f false) ≡ true
covered facts all v is c f lt = c f true (is f true ∙ lt-ltb _ _ lt)

module _ (m : Meaning) (p : Part) (i : ℕ) (lt : i < p.round) (le : p.round ≤ 30) (h : StageMasks) (rev : Revised m (stage_at p i) h) (all : Literals) (all_is : (f : ℕ) (v : Bool) → has all f v ≡ ltb f m.facts) where
  -- a consistent structure below the part has its stage below the revised one
  under : (x : Structure) → Consistent m x → Factual m x → Below x (raw p) → StageBelow (stage x i) (view h)
  under x co fa sub =
      let l : i < x.round = omega (arith, sub.round) in
      rev.keeps (stage x i) (co.closed i l)
      (record { before = λ f v e. fa i f v (omega arith) e; after = λ f v e. fa (suc i) f v (omega arith) e })
      (record { before = λ f v e. sub.possible i f v (omega arith) e; left = λ a e. sub.left i a lt e; after = λ f v e. sub.possible (suc i) f v (omega arith) e })

  pub turned_none : (WholeStage all h → ⊥) → (x : Structure) → Consistent m x → Factual m x → Below x (raw p) → ⊥
  turned_none hole x co fa sub =
      let st = under x co fa sub in
      let l : i < x.round = omega (arith, sub.round) in
      hole (record {
        action = λ none. co.action i l (λ a. down _ _ (st.left a) (none a));
        before = covering m.facts all h.before all_is (λ f k. rise _ _ _ _ (st.before f true) (st.before f false) (co.value i f (omega arith) k));
        after = covering m.facts all h.after all_is (λ f k. rise _ _ _ _ (st.after f true) (st.after f false) (co.value (suc i) f (omega arith) k));
      })

  module _ (whole : WholeStage all h) (q : Part) (pl : Placed p i h q) (cb ca : Bool)
      (kb : cb ≡ false → h.before ≡ level_at p i) (ka : ca ≡ false → h.after ≡ level_at p (suc i))
      (nb : cb ≡ true → h.before ≡ level_at p i → ⊥) (na : ca ≡ true → h.after ≡ level_at p (suc i) → ⊥)
      (due next : StageSet) (tc : Touched due i p.round cb ca next) where
    small : i < 30
    small = omega arith

    narrowed : Narrowed m p q
    narrowed = record {
      round = pl.round;
      less = record {
        round = pl.round;
        left = λ k a l n. at_step p i h q pl small (λ y v. among v a ≡ true → among (step_at p y) a ≡ true) (rev.less.left a) (λ y _ z. z) k n;
        possible = λ k f s l n. at_level p i h q pl small (λ y v. has v f s ≡ true → has (level_at p y) f s ≡ true) (rev.less.before f s) (rev.less.after f s) (λ y _ _ z. z) k n;
      };
      keeps = λ x co fa sub.
          let st = under x co fa sub in
          record {
            round = sub.round ∙ sym pl.round;
            left = λ k a l n. at_step p i h q pl small (λ y v. y < p.round → x.left y a ≡ true → among v a ≡ true) (λ _ z. st.left a z) (λ y _. sub.left y a) k (subst (λ (y : ℕ). k < y) pl.round l) n;
            possible = λ k f s l n. at_level p i h q pl small (λ y v. y ≤ p.round → x.possible y f s ≡ true → has v f s ≡ true) (λ _ z. st.before f s z) (λ _ z. st.after f s z) (λ y _ _. sub.possible y f s) k (subst (λ (y : ℕ). k ≤ y) pl.round l) n;
          };
      past = same_past p i h q pl small lt;
    }

    kept : (j : ℕ) → (j ≡ i → cb ≡ false) → (j ≡ suc i → ca ≡ false) → level_at q j ≡ level_at p j
    kept = at_level p i h q pl small (λ k v. (k ≡ i → cb ≡ false) → (k ≡ suc i → ca ≡ false) → v ≡ level_at p k) (λ x y. kb (x refl)) (λ x y. ka (y refl)) (λ j n o x y. refl)

    -- a stage that is not due
    firm : (j : ℕ) → j < p.round → marked next j ≡ false → (marked due j ≡ false → (j ≡ i → ⊥) → ConsistentStage m (stage (raw p) j)) → ConsistentStage m (stage (raw q) j)
    firm j l n was = elim (cases_eq j i) [
      | inl e ↦
          let off : marked next i ≡ false = subst (λ (k : ℕ). marked next k ≡ false) e n in
          let b : cb ≡ false = false_from_ne_true _ (λ k. both_ways _ off (tc.here k)) in
          let some : (f : ℕ) → f < m.facts → (has h.before f true || has h.before f false) ≡ true = covered m.facts all h.before all_is whole.before in
          let new : ConsistentStage m (view h) = record {
            settled = rev.settled (kb b) some;
            action = whole.action;
            before = some;
            after = covered m.facts all h.after all_is whole.after;
          } in
          subst (λ (k : ℕ). ConsistentStage m (stage (raw q) k)) (sym e) (subst (λ (x : StageMasks). ConsistentStage m (view x)) (sym (stage_here p i h q pl small)) new)
      | inr d ↦
          let nd : marked due j ≡ false = false_from_ne_true _ (λ k. both_ways _ n (tc.old j k)) in
          let a : level_at q j ≡ level_at p j =
          kept j (λ e. absurd (d e)) (λ e. false_from_ne_true _ (λ k. both_ways _ n (subst (λ (x : ℕ). marked next x ≡ true) (sym e) (tc.later k (subst (λ (x : ℕ). x < p.round) e l))))) in
          let b : level_at q (suc j) ≡ level_at p (suc j) = kept (suc j) (λ e. false_from_ne_true _ (λ k. both_ways _ n (tc.prior k j e))) (λ e. absurd (d (omega arith))) in
          let o : step_at q j ≡ step_at p j = step_other p i h q pl small j d in
          let e : stage_at q j ≡ stage_at p j = cc in
          subst (λ (x : StageMasks). ConsistentStage m (view x)) (sym e) (was nd d)
    ]

    -- the part weighs less, or it weighs no more and no stage was added
    lighter_or_same : (weight q < weight p) ⊎ ((next ≡ due) × (weight q ≤ weight p))
    lighter_or_same =
        let w = weighs p i h q pl small in
        let f = rev.fewer in
        elim (cases_Bool cb) [
          | inl b ↦ let x = lighter h.before (level_at p i) f.before_trues f.before_falses (nb b) in inl (omega (arith, f.actions, f.after_trues, f.after_falses))
          | inr b ↦ elim (cases_Bool ca) [
            | inl a ↦ let x = lighter h.after (level_at p (suc i)) f.after_trues f.after_falses (na a) in inl (omega (arith, f.actions, f.before_trues, f.before_falses))
            | inr a ↦ inr (tc.same b a, omega (arith, f.actions, f.before_trues, f.before_falses, f.after_trues, f.after_falses))
          ]
        ]

    pub turned_some : Turned m p i due (Some next) q
    turned_some = record { narrowed = narrowed; under = tc.under; firm = firm; falls = lighter_or_same }
