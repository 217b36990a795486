-- A part with one stage put in place: what holds of the new stage and of the old rest holds of every step and level, and
-- so does what they weigh.
use Rattle.std.proofs.Common.{◌≡◌, ℕ, suc, ◌+◌, ◌<◌, ◌≤◌, Bool, true, false, not, ◌&&◌, List, get_or, set, sum_by, sym, refl, ap, ◌∙◌, subst, ap₂, inl, inr, arith, length-set, get_or-set_other, get_or-set_same}
use Rattle.std.proofs.Math.Dec.{eqb}
use Rattle.std.proofs.lemmas.List.Sums.{sum_by-set}
use Rattle.std.proofs.lemmas.Bool.{cases_eq, cases_lt, eqb-true, eq-eqb, false≢true}
use Rattle.sets.specs.Sets.{ActionSet}
use Rattle.sets.specs.declared.literals.Literals.{Literals}
use Rattle.filter.specs.declared.part.Part.{Part}
use Rattle.filter.specs.declared.stage.StageMasks.{StageMasks}
use Rattle.filter.specs.Parts.{no_actions, no_literals, step_at, level_at, SamePast}
use Rattle.filter.specs.Turns.{stage_at, Placed, size, bulk, weight}

module _ (p : Part) (i : ℕ) (h : StageMasks) (q : Part) (pl : Placed p i h q) (lt : i < 30) where
  here : level_at q i ≡ h.before
  here =
      let n : i ≡ suc i → ⊥ = λ e. omega arith in
      ap (λ (l : List Literals). get_or l i no_literals) pl.levels
      ∙ get_or-set_other (set p.levels i h.before) (suc i) i h.after no_literals n ∙ get_or-set_same p.levels i h.before no_literals (omega (arith, p.long))

  next : level_at q (suc i) ≡ h.after
  next =
      ap (λ (l : List Literals). get_or l (suc i) no_literals) pl.levels
      ∙ get_or-set_same (set p.levels i h.before) (suc i) h.after no_literals (omega (arith, p.long, length-set p.levels i h.before))

  other : (j : ℕ) → (j ≡ i → ⊥) → (j ≡ suc i → ⊥) → level_at q j ≡ level_at p j
  other j n o =
      ap (λ (l : List Literals). get_or l j no_literals) pl.levels
      ∙ get_or-set_other (set p.levels i h.before) (suc i) j h.after no_literals o ∙ get_or-set_other p.levels i j h.before no_literals n

  step_here : step_at q i ≡ h.left
  step_here = ap (λ (l : List ActionSet). get_or l i no_actions) pl.steps ∙ get_or-set_same p.steps i h.left no_actions (omega (arith, p.wide))

  pub step_other : (j : ℕ) → (j ≡ i → ⊥) → step_at q j ≡ step_at p j
  step_other j n = ap (λ (l : List ActionSet). get_or l j no_actions) pl.steps ∙ get_or-set_other p.steps i j h.left no_actions n

  pub at_level : (P : ℕ → Literals → Type 0) → P i h.before → P (suc i) h.after
      → ((j : ℕ) → (j ≡ i → ⊥) → (j ≡ suc i → ⊥) → P j (level_at p j)) → (j : ℕ) → P j (level_at q j)
  at_level P x y z j =
      elim (cases_eq j i) [
        | inl e ↦ subst (λ (k : ℕ). P k (level_at q k)) (sym e) (subst (P i) (sym here) x)
        | inr n ↦ elim (cases_eq j (suc i)) [
          | inl e ↦ subst (λ (k : ℕ). P k (level_at q k)) (sym e) (subst (P (suc i)) (sym next) y)
          | inr o ↦ subst (P j) (sym (other j n o)) (z j n o)
        ]
      ]

  pub at_step : (P : ℕ → ActionSet → Type 0) → P i h.left → ((j : ℕ) → (j ≡ i → ⊥) → P j (step_at p j)) → (j : ℕ) → P j (step_at q j)
  at_step P x z j =
      elim (cases_eq j i) [
        | inl e ↦ subst (λ (k : ℕ). P k (step_at q k)) (sym e) (subst (P i) (sym step_here) x)
        | inr n ↦ subst (P j) (sym (step_other j n)) (z j n)
      ]

  pub stage_here : stage_at q i ≡ h
  stage_here =
      ap (λ (x : Literals). record { before = x; left = step_at q i; after = level_at q (suc i) }) here
      ∙ ap₂ (λ (x : ActionSet) (y : Literals). record { before = h.before; left = x; after = y }) step_here next

  -- past the round nothing moved
  pub same_past : i < p.round → SamePast p q
  same_past l = record { steps = λ j k. step_other j (λ e. omega arith); levels = λ j k. other j (λ e. omega arith) (λ e. omega arith) }

  -- what the part weighs with the stage in place
  pub weighs : weight q + (size (level_at p i) + size (level_at p (suc i)) + bulk (step_at p i)) ≡ weight p + (size h.before + size h.after + bulk h.left)
  unfolding weight
  weighs =
      let n : suc i ≡ i → ⊥ = λ e. omega arith in
      let a = sum_by-set size p.levels i h.before no_literals (omega (arith, p.long)) in
      let b = sum_by-set size (set p.levels i h.before) (suc i) h.after no_literals (omega (arith, p.long, length-set p.levels i h.before)) in
      let d : size (get_or (set p.levels i h.before) (suc i) no_literals) ≡ size (level_at p (suc i)) = ap size (get_or-set_other p.levels i (suc i) h.before no_literals n) in
      let e = sum_by-set bulk p.steps i h.left no_actions (omega (arith, p.wide)) in
      let x : sum_by size q.levels ≡ sum_by size (set (set p.levels i h.before) (suc i) h.after) = ap (sum_by size) pl.levels in
      let y : sum_by bulk q.steps ≡ sum_by bulk (set p.steps i h.left) = ap (sum_by bulk) pl.steps in
      omega arith

pub same_literals : (v w : Literals) → v.trues.bits ≡ w.trues.bits → v.falses.bits ≡ w.falses.bits → v ≡ w
same_literals v w a b = ap₂ (λ (x y : ℕ). record { trues = record { bits = x }; falses = record { bits = y } }) a b

-- literals that are not the same, and no more in either word, weigh less
pub lighter : (v w : Literals) → v.trues.bits ≤ w.trues.bits → v.falses.bits ≤ w.falses.bits → (v ≡ w → ⊥) → size v < size w
lighter v w a b ne =
    elim (cases_lt (size v) (size w)) [
      | inl l ↦ l
      | inr l ↦ let x : v.trues.bits ≡ w.trues.bits = omega arith in let y : v.falses.bits ≡ w.falses.bits = omega arith in absurd (ne (same_literals v w x y))
    ]

-- what the derived `!=` of literals says
abbrev pub Differs : Bool → Literals → Literals → Type 0
Differs r v w = r ≡ not (eqb v.trues.bits w.trues.bits && eqb v.falses.bits w.falses.bits)

pub unequal : (r : Bool) (v w : Literals) → Differs r v w → (r ≡ false → v ≡ w) × (r ≡ true → v ≡ w → ⊥)
unequal r v w = go (eqb v.trues.bits w.trues.bits) (eqb v.falses.bits w.falses.bits) refl refl
  where
    go : (a b : Bool) → eqb v.trues.bits w.trues.bits ≡ a → eqb v.falses.bits w.falses.bits ≡ b → r ≡ not (a && b) → (r ≡ false → v ≡ w) × (r ≡ true → v ≡ w → ⊥)
    go true true p q k = (λ _. same_literals v w (eqb-true _ _ p) (eqb-true _ _ q), λ t. absurd (false≢true (sym k ∙ t)))
    go true false p q k = (λ f. absurd (false≢true (sym f ∙ k)), λ _ s. false≢true (sym q ∙ eq-eqb _ _ (ap (λ (x : Literals). x.falses.bits) s)))
    go false b p q k = (λ f. absurd (false≢true (sym f ∙ k)), λ _ s. false≢true (sym p ∙ eq-eqb _ _ (ap (λ (x : Literals). x.trues.bits) s)))
