-- One more action looked at: where it fits it joins those left, and what they make and need in common is brought up to date.
use Rattle.std.proofs.Common.{◌≡◌, ℕ, ◌<◌, Bool, true, false, not, ◌&&◌, ◌||◌, eqb, ltb, ◌⊎◌, ℤ, sym, refl, ◌∙◌, subst, inl, inr}
use Rattle.std.proofs.lemmas.Bool.{or_cases, or_left, or_right, or_from, and_parts, and_from, eqb-true, eq-eqb, both_ways, cases_Bool, cases_lt, lt-ltb, true_from_ne_false, false_from_ne_true}
use Rattle.sets.specs.Sets.{has, among, ActionSet}
use Rattle.sets.specs.Signs.{says}
use Rattle.sets.specs.declared.literals.Literals.{Literals}
use Rattle.tasks.specs.Meaning.{Meaning, Lawful, value, Three}
use Rattle.tasks.specs.Rows.{Names}
use Rattle.tasks.specs.declared.row.Row.{Row}
use Rattle.filter.specs.declared.stage.StageMasks.{StageMasks}
use Rattle.filter.specs.declared.stage.Survey.{Survey}
use Rattle.filter.specs.Kernel.{Fits, Fit, Joined, Met, Joins, Looked}
use Rattle.tasks.proofs.Acting.{said_value, value_said}
use Rattle.filter.proofs.Values.{no_value}

-- a set that names numbers has a literal where the number is its value
module _ (numbers : ℕ → ℤ) (set : Literals) (names : Names numbers set) (three : (f : ℕ) → Three (numbers f)) where
  pub named : (f : ℕ) (v : Bool) → has set f v ≡ true → numbers f ≡ value v
  named f v e = said_value (numbers f) (three f) v (sym (names f v) ∙ e)

  pub naming : (f : ℕ) (v : Bool) → numbers f ≡ value v → has set f v ≡ true
  naming f v e = names f v ∙ value_said (numbers f) v e

-- a number is a value, if it can't be otherwise
pub decided : (z : ℤ) (v : Bool) → Three z → ((z ≡ value v → ⊥) → ⊥) → z ≡ value v
decided z v h n = said_value z h v (true_from_ne_false (says z v) (λ e. n (λ q. both_ways (says z v) e (value_said z v q))))

-- what is needed or made is a fact of the task
pub need_fact : (m : Meaning) → Lawful m → (a f : ℕ) (v : Bool) → m.needs a f ≡ value v → f < m.facts
need_fact m lw a f v e = elim (cases_lt f m.facts) [ inl l ↦ l | inr l ↦ no_value v (sym (lw.needs_past_fact a f l) ∙ e) ]

pub made_fact : (m : Meaning) → Lawful m → (a f : ℕ) (v : Bool) → m.makes a f ≡ value v → f < m.facts
made_fact m lw a f v e = elim (cases_lt f m.facts) [ inl l ↦ l | inr l ↦ no_value v (sym (lw.makes_past_fact a f l) ∙ e) ]

abbrev pub Adds : ActionSet → ℕ → ActionSet → Type 0
Adds set a more = (b : ℕ) → among more b ≡ (among set b || (ltb a 128 && eqb b a))

module _ (set more : ActionSet) (a : ℕ) (adds : Adds set a more) (small : a < 128) where
  old : (b : ℕ) → among set b ≡ true → among more b ≡ true
  old b m = adds b ∙ or_left _ _ m

  new : among more a ≡ true
  new = adds a ∙ or_right _ _ (and_from _ _ (lt-ltb _ _ small) (eq-eqb _ _ refl))

  either : (P : ℕ → Type 0) → ((b : ℕ) → among set b ≡ true → P b) → P a → (b : ℕ) → among more b ≡ true → P b
  either P was here b m =
      elim (or_cases _ _ (sym (adds b) ∙ m))
      [ inl k ↦ was b k | inr e ↦ subst P (sym (eqb-true _ _ (and_parts _ _ e).1)) here ]

  module _ (numbers : ℕ → ℕ → ℤ) (row v w : Literals) (names : Names (numbers a) row) (three : (f : ℕ) → Three (numbers a f)) where
    joined_more : Joined numbers set v → ((f : ℕ) (s : Bool) → has w f s ≡ (has v f s || has row f s)) → Joined numbers more w
    joined_more j u = record {
      each = λ b f s m h. u f s ∙ either (λ x. numbers x f ≡ value s → (has v f s || has row f s) ≡ true)
          (λ x k g. or_left _ _ (j.each x f s k g))
          (λ g. or_right _ _ (naming _ _ names three f s g)) b m h;
      only = λ f s none. u f s ∙ or_from _ _ (j.only f s (λ b m. none b (old b m))) (false_from_ne_true _ (λ e. none a new (named _ _ names three f s e)));
    }

    met_more : (facts : ℕ) → Met facts numbers set v → ((f : ℕ) (s : Bool) → has w f s ≡ (has v f s && has row f s)) → Met facts numbers more w
    met_more facts j u = record {
      each = λ b f s m h. let both = and_parts _ _ (sym (u f s) ∙ h) in
          either (λ x. numbers x f ≡ value s) (λ x k. j.each x f s k both.0) (named _ _ names three f s both.1) b m;
      only = λ f s lt all. u f s ∙ and_from _ _ (j.only f s lt (λ b m. all b (old b m))) (naming _ _ names three f s (all a new));
    }

-- no action yet: nothing is made, and everything is agreed on
pub joined_none : (numbers : ℕ → ℕ → ℤ) (set : ActionSet) (v : Literals) → ((f : ℕ) (s : Bool) → has v f s ≡ false) → ((a : ℕ) → among set a ≡ false) → Joined numbers set v
joined_none numbers set v none empty = record { each = λ a f s m h. absurd (both_ways _ (empty a) m); only = λ f s h. none f s }

pub met_none : (facts : ℕ) (numbers : ℕ → ℕ → ℤ) (set : ActionSet) (v : Literals) → ((f : ℕ) (s : Bool) → has v f s ≡ ltb f facts) → ((a : ℕ) → among set a ≡ false) → Met facts numbers set v
met_none facts numbers set v all empty = record { each = λ a f s m h. absurd (both_ways _ (empty a) m); only = λ f s lt h. all f s ∙ lt-ltb _ _ lt }

-- one member less
module _ (g h : ℕ → Bool) (a : ℕ) (drops : (b : ℕ) → h b ≡ (g b && not (eqb b a))) where
  pub smaller : (b : ℕ) → h b ≡ true → g b ≡ true
  smaller b m = (and_parts _ _ (sym (drops b) ∙ m)).0

  -- what is not in the smaller set was not in the larger, or is the one dropped
  pub gone : (b : ℕ) → h b ≡ false → (g b ≡ false) ⊎ (b ≡ a)
  gone b m =
      elim (cases_Bool (eqb b a)) [
        | inl e ↦ inr (eqb-true _ _ e)
        | inr e ↦ elim (cases_Bool (g b)) [ inl k ↦ absurd (both_ways _ m (drops b ∙ rw (k, e))) | inr k ↦ inl k ]
      ]

pub looked_none : (m : Meaning) (g : StageMasks) (required : Literals) (s : Survey)
    → ((a : ℕ) → among s.left a ≡ false) → ((f : ℕ) (v : Bool) → has s.made f v ≡ false)
    → ((f : ℕ) (v : Bool) → has s.agreed f v ≡ ltb f m.facts) → ((f : ℕ) (v : Bool) → has s.wanted f v ≡ ltb f m.facts) → Looked m g required g.left s
looked_none m g required s empty none agreed wanted = record {
  rests = λ a k. k;
  from = λ a k. absurd (both_ways _ (empty a) k);
  fit = λ a k. absurd (both_ways _ (empty a) k);
  stays = λ a k n. absurd (both_ways _ n k);
  making = joined_none m.makes s.left s.made none empty;
  agreeing = met_none m.facts m.makes s.left s.agreed agreed empty;
  wanting = met_none m.facts m.needs s.left s.wanted wanted empty;
}

module _ (m : Meaning) (lw : Lawful m) (g : StageMasks) (required : Literals) (a : ℕ) (row : Row) (nn : Names (m.needs a) row.needs) (nm : Names (m.makes a) row.makes) where
  -- the row of an action fits where the action does
  fit_row : Fit m g required a → Fits row g required
  fit_row h = record {
    needs = λ f v e. h.needs f v (named _ _ nn (lw.needs_three a) f v e);
    makes = λ f v e. h.makes f v (named _ _ nm (lw.makes_three a) f v e);
    turns = λ f v e. naming _ _ nm (lw.makes_three a) f v (h.turns f v e);
  }

  row_fit : Fits row g required → Fit m g required a
  row_fit h = record {
    needs = λ f v e. h.needs f v (naming _ _ nn (lw.needs_three a) f v e);
    makes = λ f v e. h.makes f v (naming _ _ nm (lw.makes_three a) f v e);
    turns = λ f v e. named _ _ nm (lw.makes_three a) f v (h.turns f v e);
  }

  module _ (rest less : ActionSet) (s : Survey) (drops : (b : ℕ) → among less b ≡ (among rest b && not (eqb b a))) (was : Looked m g required rest s) where
    pub look_past : (Fits row g required → ⊥) → Looked m g required less s
    look_past unfit = record {
      rests = λ b k. was.rests b (smaller (among rest) (among less) a drops b k);
      from = was.from;
      fit = was.fit;
      stays = λ b k n h. elim (gone (among rest) (among less) a drops b n)
          [ inl x ↦ was.stays b k x h | inr x ↦ absurd (unfit (fit_row (subst (λ (y : ℕ). Fit m g required y) x h))) ];
      making = was.making;
      agreeing = was.agreeing;
      wanting = was.wanting;
    }

    pub look_more : (t : Survey) → Joins s a row t → a < 128 → among rest a ≡ true → Fits row g required → Looked m g required less t
    look_more t j small there good = record {
      rests = λ b k. was.rests b (smaller (among rest) (among less) a drops b k);
      from = either s.left t.left a j.left small (λ b. among g.left b ≡ true) was.from (was.rests a there);
      fit = either s.left t.left a j.left small (λ b. Fit m g required b) was.fit (row_fit good);
      stays = λ b k n h. elim (gone (among rest) (among less) a drops b n)
          [ inl x ↦ old s.left t.left a j.left small b (was.stays b k x h) | inr x ↦ subst (λ (y : ℕ). among t.left y ≡ true) (sym x) (new s.left t.left a j.left small) ];
      making = joined_more s.left t.left a j.left small m.makes row.makes s.made t.made nm (lw.makes_three a) was.making j.made;
      agreeing = met_more s.left t.left a j.left small m.makes row.makes s.agreed t.agreed nm (lw.makes_three a) m.facts was.agreeing j.agreed;
      wanting = met_more s.left t.left a j.left small m.needs row.needs s.wanted t.wanted nn (lw.needs_three a) m.facts was.wanting j.wanted;
    }
