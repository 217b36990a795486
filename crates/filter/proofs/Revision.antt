-- What one revision of a stage leaves is right: each line of it is one rule, so a settled stage below loses nothing, and
-- where the values before stayed as they were no rule applies to what is left.
use Rattle.std.proofs.Common.{◌≡◌, ℕ, ◌^◌, ◌<◌, Bool, true, false, not, ◌&&◌, ◌||◌, ltb, ◌⊎◌, sym, refl, ◌∙◌, subst, inl, inr}
use Rattle.std.proofs.lemmas.Bool.{cases_Bool, or_cases, or_from, or_parts, and_parts, and_from, both_ways, not-true, not_from_false, ltb-true, lt-ltb, true_from_ne_false, false_from_ne_true}
use Rattle.sets.proofs.BitLaws.{sub_le}
use Rattle.sets.specs.Sets.{has, among, member}
use Rattle.sets.specs.declared.literals.Literals.{Literals}
use Rattle.tasks.specs.Meaning.{Meaning, Lawful, value}
use Rattle.filter.specs.declared.stage.StageMasks.{StageMasks}
use Rattle.filter.specs.declared.stage.Survey.{Survey}
use Rattle.filter.specs.Kernel.{Fit, Surveyed}
use Rattle.filter.specs.Revising.{Revised, Fewer, StageBelow, OfTask, view}
use Rattle.filter.specs.Rules.{Stage, Settled}
use Rattle.filter.proofs.Looking.{decided, need_fact, made_fact}
use Rattle.filter.proofs.Values.{not_both, opposed}

-- a test that is false above is false below
pub down : (x y : Bool) → (x ≡ true → y ≡ true) → y ≡ false → x ≡ false
down x y h e = false_from_ne_true x (λ k. both_ways y e (h k))

-- the words of a stage are of their widths
abbrev pub Sized : StageMasks → Type 0
Sized g = (g.before.trues.bits < 2 ^ 64) × (g.before.falses.bits < 2 ^ 64) × (g.left.bits < 2 ^ 128) × (g.after.trues.bits < 2 ^ 64) × (g.after.falses.bits < 2 ^ 64)

module _ (m : Meaning) (lw : Lawful m) (g : StageMasks) (all required : Literals) (s : Survey) (look : Surveyed m g required s) (before after : Literals)
    (all_is : (f : ℕ) (v : Bool) → has all f v ≡ ltb f m.facts)
    (required_is : (f : ℕ) (v : Bool) → has required f v ≡ ((has all f v && not (has g.before f v)) && not (has g.after f (not v))))
    (after_is : (f : ℕ) (v : Bool) → has after f v ≡ ((has g.after f v && (has g.before f v || has s.made f v)) && not (has s.agreed f (not v))))
    (before_is : (f : ℕ) (v : Bool) → has before f v ≡ ((has g.before f v && (has after f v || has s.made f (not v))) && not (has s.wanted f (not v))))
  where
    abbrev h : StageMasks
    h = record { before = before; left = s.left; after = after }

    after_parts : (f : ℕ) (v : Bool) → has after f v ≡ true → (has g.after f v ≡ true) × ((has g.before f v || has s.made f v) ≡ true) × (has s.agreed f (not v) ≡ false)
    after_parts f v k =
        let p = and_parts _ _ (sym (after_is f v) ∙ k) in
        let q = and_parts _ _ p.0 in
        (q.0, q.1, not-true _ p.1)

    before_parts : (f : ℕ) (v : Bool) → has before f v ≡ true → (has g.before f v ≡ true) × ((has after f v || has s.made f (not v)) ≡ true) × (has s.wanted f (not v) ≡ false)
    before_parts f v k =
        let p = and_parts _ _ (sym (before_is f v) ∙ k) in
        let q = and_parts _ _ p.0 in
        (q.0, q.1, not-true _ p.1)

    less : StageBelow (view h) (view g)
    less = record { before = λ f v k. (before_parts f v k).0; left = look.from; after = λ f v k. (after_parts f v k).0 }

    module _ (x : Stage) (settled_x : Settled m x) (own : OfTask m x) (sub : StageBelow x (view g)) where
      fit : (a : ℕ) → x.left a ≡ true → Fit m g required a
      fit a k = record {
        needs = λ f v n. true_from_ne_false _ (λ e. settled_x.needs_the_impossible a k (f, v, need_fact m lw a f v n, n, down _ _ (sub.before f v) e));
        makes = λ f v n. true_from_ne_false _ (λ e. settled_x.makes_the_impossible a k (f, v, made_fact m lw a f v n, n, down _ _ (sub.after f v) e));
        turns = λ f v n. turned f v (sym (required_is f v) ∙ n);
      }
        where
          turned : (f : ℕ) (v : Bool) → ((has all f v && not (has g.before f v)) && not (has g.after f (not v))) ≡ true → m.makes a f ≡ value v
          turned f v n =
              let p = and_parts _ _ n in
              let o = and_parts _ _ p.0 in
              decided _ v (lw.makes_three a f) (λ z. settled_x.misses_a_required_change a k (
                f,
                v,
                ltb-true _ _ (sym (all_is f v) ∙ o.0),
                down _ _ (sub.before f v) (not-true _ o.1),
                down _ _ (sub.after f (not v)) (not-true _ p.1),
                z,
              ))

      keep_left : (a : ℕ) → x.left a ≡ true → among s.left a ≡ true
      keep_left a k = look.stays a (sub.left a k) (fit a k)

      keep_after : (f : ℕ) (v : Bool) → x.after f v ≡ true → has after f v ≡ true
      keep_after f v k =
          let lt : f < m.facts = own.after f v k in
          let made : (has g.before f v || has s.made f v) ≡ true =
          true_from_ne_false _ (λ e.
          let o = or_parts _ _ e in
          settled_x.neither_possible_before_nor_made f v lt k (
            down _ _ (sub.before f v) o.0,
            λ a n z. both_ways _ o.1 (look.making.each a f v (keep_left a n) z),
          )) in
          let free : has s.agreed f (not v) ≡ false =
          false_from_ne_true _ (λ e. settled_x.opposite_always_made f v lt k (λ a n. look.agreeing.each a f (not v) (keep_left a n) e ∙ sym (opposed v))) in
          after_is f v ∙ and_from _ _
          (and_from _ _ (sub.after f v k) made) (not_from_false _ free)

      keep_before : (f : ℕ) (v : Bool) → x.before f v ≡ true → has before f v ≡ true
      keep_before f v k =
          let lt : f < m.facts = own.before f v k in
          let undone : (has after f v || has s.made f (not v)) ≡ true =
          true_from_ne_false _ (λ e.
          let o = or_parts _ _ e in
          settled_x.neither_possible_after_nor_undone f v lt k (
            down _ _ (keep_after f v) o.0,
            λ a n z. both_ways _ o.1 (look.making.each a f (not v) (keep_left a n) (z ∙ opposed v)),
          )) in
          let free : has s.wanted f (not v) ≡ false =
          false_from_ne_true _ (λ e. settled_x.opposite_always_needed f v lt k (λ a n. look.wanting.each a f (not v) (keep_left a n) e ∙ sym (opposed v))) in
          before_is f v ∙ and_from _ _
          (and_from _ _ (sub.before f v k) undone) (not_from_false _ free)

      keeps : StageBelow x (view h)
      keeps = record { before = keep_before; left = keep_left; after = keep_after }

    module _ (same_before : before ≡ g.before) (some_before : (f : ℕ) → f < m.facts → (has before f true || has before f false) ≡ true) where
      -- no action left makes a literal, so it is not among those made
      unmade : (f : ℕ) (v : Bool) → ((a : ℕ) → among s.left a ≡ true → m.makes a f ≡ value v → ⊥) → has s.made f v ≡ false
      unmade f v none = look.making.only f v none

      old_before : (f : ℕ) (v b : Bool) → has before f v ≡ b → has g.before f v ≡ b
      old_before f v b k = subst (λ (y : Literals). has y f v ≡ b) same_before k

      -- a value that the revision took away after the step: all actions left make its opposite, or it was not possible
      -- before and none makes it
      taken : (f : ℕ) (v : Bool) → has g.after f v ≡ true → has after f v ≡ false → (has s.agreed f (not v) ≡ true) ⊎ ((has g.before f v ≡ false) × (has s.made f v ≡ false))
      taken f v was gone =
          elim (cases_Bool (has s.agreed f (not v))) [
            | inl e ↦ inl e
            | inr e ↦ inr (or_parts _ _ (false_from_ne_true _ (λ k. both_ways _ gone
                (after_is f v ∙ and_from _ _ (and_from _ _ was k) (not_from_false _ e)))))
          ]

      -- an action left makes nothing that is not possible after
      makes_none : (a f : ℕ) (v : Bool) → among s.left a ≡ true → m.makes a f ≡ value v → has after f v ≡ false → ⊥
      makes_none a f v k z gone =
          elim (taken f v ((look.fit a k).makes f v z) gone) [
            | inl e ↦ not_both (m.makes a f) v z (look.agreeing.each a f (not v) k e ∙ sym (opposed v))
            | inr e ↦ both_ways _ e.1 (look.making.each a f v k z)
          ]

      -- an action left misses no change that is required
      misses_none : (a f : ℕ) (v : Bool) → among s.left a ≡ true → f < m.facts → has before f v ≡ false → has after f (not v) ≡ false → m.makes a f ≡ value v
      misses_none a f v k lt no_before no_after =
          elim (cases_Bool (has g.after f (not v))) [
            | inl was ↦ elim (taken f (not v) was no_after) [
              | inl e ↦ look.agreeing.each a f v k (subst (λ (b : Bool). has s.agreed f b ≡ true) (not_not v) e)
              | inr e ↦ absurd (empty v no_before (subst (λ (y : Literals). has y f (not v) ≡ false) (sym same_before) e.0))
            ]
            | inr off ↦ (look.fit a k).turns f v
                (required_is f v ∙ and_from _ _ (and_from _ _ (all_is f v ∙ lt-ltb _ _ lt) (not_from_false _ (old_before f v false no_before))) (not_from_false _ off))
          ]
        where
          not_not : (b : Bool) → not (not b) ≡ b
          not_not true = refl
          not_not false = refl

          empty : (b : Bool) → has before f b ≡ false → has before f (not b) ≡ false → ⊥
          empty true x y = both_ways _ (or_from _ _ x y) (some_before f lt)
          empty false x y = both_ways _ (or_from _ _ y x) (some_before f lt)

      settled_h : Settled m (view h)
      settled_h = record {
        neither_possible_before_nor_made = λ f v lt k r. elim (or_cases _ _ (after_parts f v k).1)
            [ inl e ↦ both_ways _ (old_before f v false r.0) e | inr e ↦ both_ways _ (unmade f v r.1) e ];
        opposite_always_made = λ f v lt k r. both_ways _ (after_parts f v k).2
            (look.agreeing.only f (not v) lt (λ a n. r a n ∙ opposed v));
        neither_possible_after_nor_undone = λ f v lt k r. elim (or_cases _ _ (before_parts f v k).1)
            [ inl e ↦ both_ways _ r.0 e | inr e ↦ both_ways _ (unmade f (not v) (λ a n z. r.1 a n (z ∙ sym (opposed v)))) e ];
        opposite_always_needed = λ f v lt k r. both_ways _ (before_parts f v k).2
            (look.wanting.only f (not v) lt (λ a n. r a n ∙ opposed v));
        needs_the_impossible = λ a k r. both_ways _ (old_before r.0 r.1 false r.4) ((look.fit a k).needs r.0 r.1 r.3);
        makes_the_impossible = λ a k r. makes_none a r.0 r.1 k r.3 r.4;
        misses_a_required_change = λ a k r. r.5 (misses_none a r.0 r.1 k r.2 r.3 r.4);
      }

    fewer : Sized g → Sized h → Fewer h g
    unfolding has member
    fewer k l = record {
      before_trues = sub_le 64 before.trues.bits g.before.trues.bits l.0 k.0 (λ f n. less.before f true n);
      before_falses = sub_le 64 before.falses.bits g.before.falses.bits l.1 k.1 (λ f n. less.before f false n);
      actions = sub_le 128 s.left.bits g.left.bits l.2 k.2 less.left;
      after_trues = sub_le 64 after.trues.bits g.after.trues.bits l.3 k.3 (λ f n. less.after f true n);
      after_falses = sub_le 64 after.falses.bits g.after.falses.bits l.4 k.4 (λ f n. less.after f false n);
    }

    pub revised : Sized g → Sized h → Revised m g h
    revised k l = record { less = less; keeps = keeps; settled = settled_h; fewer = fewer k l }
