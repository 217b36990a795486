-- From a part as it is stored to its structure: the two agree up to the round, so what the loop leaves is what filtering
-- leaves.
use Rattle.std.proofs.Common.{◌≡◌, ℕ, suc, ◌<◌, ◌≤◌, Bool, true, false, ◌&&◌, ◌||◌, ltb, leb, sym, refl, ap, ◌∙◌, subst, ap₂, arith}
use mathlib.Core.Path.{fun_ext}
use Rattle.std.proofs.lemmas.Bool.{and_parts, and_from, ltb-true, leb-true, lt-ltb, le-leb, both_ways, false_from_ne_true}
use Rattle.sets.specs.Sets.{has, among, ActionSet, StageSet}
use Rattle.sets.specs.declared.literals.Literals.{Literals}
use Rattle.tasks.specs.Meaning.{Meaning}
use Rattle.filter.specs.declared.part.Part.{Part}
use Rattle.filter.specs.Structures.{Structure, Below, trimmed, bare}
use Rattle.filter.specs.Rules.{stage, Settled}
use Rattle.filter.specs.Filtering.{Consistent, ConsistentStage, Filtered}
use Rattle.filter.specs.Filtering.Filtered.{kept, wiped}
use Rattle.filter.specs.Parts.{step_at, level_at, structure}
use Rattle.filter.specs.Loops.{Restricted}
use Rattle.filter.specs.Turns.{raw, Factual}
use Rattle.filter.specs.Stages.{ConsistentButAt}
use Rattle.filter.proofs.Uniqueness.{both_follow, same_structure}

-- a stage below the round is the same in both
pub stage_same : (p : Part) (i : ℕ) → i < p.round → stage (structure p) i ≡ stage (raw p) i
stage_same p i lt =
    let here : (j f : ℕ) (v : Bool) → j ≤ p.round → (structure p).possible j f v ≡ has (level_at p j) f v = λ j f v le. ap (λ (b : Bool). b && has (level_at p j) f v) (le-leb _ _ le) in
    let l : (structure p).left i ≡ among (step_at p i) = fun_ext (λ a. ap (λ (b : Bool). b && among (step_at p i) a) (lt-ltb _ _ lt)) in
    let b : (structure p).possible i ≡ has (level_at p i) = fun_ext (λ f. fun_ext (λ v. here i f v (omega arith))) in
    let a : (structure p).possible (suc i) ≡ has (level_at p (suc i)) = fun_ext (λ f. fun_ext (λ v. here (suc i) f v lt)) in
    ap (λ (x : ℕ → Bool → Bool). record { before = x; left = (structure p).left i; after = (structure p).possible (suc i) }) b
    ∙ ap₂ (λ (x : ℕ → Bool) (y : ℕ → Bool → Bool). record { before = has (level_at p i); left = x; after = y }) l a

pub firm_raw : (m : Meaning) (p : Part) (due : StageSet) → ConsistentButAt due m (structure p) → ConsistentButAt due m (raw p)
firm_raw m p due h i lt off = subst (ConsistentStage m) (stage_same p i lt) (h i lt off)

-- consistent as it is stored, consistent as a structure
pub consistent_structure : (m : Meaning) (p : Part) → Consistent m (raw p) → Consistent m (structure p)
consistent_structure m p co = record {
  closed = λ i lt. subst (Settled m) (sym (stage_same p i lt)) (co.closed i lt);
  action = λ i lt none. co.action i lt (λ a. sym (ap (λ (b : Bool). b && among (step_at p i) a) (lt-ltb _ _ lt)) ∙ none a);
  value = λ i f le lt. ap₂ (λ (x y : Bool). x || y) (at i f true le) (at i f false le) ∙ co.value i f le lt;
}
  where
    at : (i f : ℕ) (v : Bool) → i ≤ p.round → (structure p).possible i f v ≡ has (level_at p i) f v
    at i f v le = ap (λ (b : Bool). b && has (level_at p i) f v) (le-leb _ _ le)

-- what is below the one is below the other
pub below_structure : (p : Part) (x : Structure) → Below x (raw p) → Below x (structure p)
below_structure p x s = record {
  round = s.round;
  left = λ i a l e. and_from _ _ (lt-ltb _ _ l) (s.left i a l e);
  possible = λ i f v l e. and_from _ _ (le-leb _ _ l) (s.possible i f v l e);
}

pub structure_below : (p q : Part) → Below (raw q) (raw p) → Below (structure q) (structure p)
structure_below p q s = record {
  round = s.round;
  left = λ i a l e. and_from _ _ (lt-ltb _ _ l) (s.left i a l (and_parts _ _ e).1);
  possible = λ i f v l e. and_from _ _ (le-leb _ _ l) (s.possible i f v l (and_parts _ _ e).1);
}

module _ (m : Meaning) (p : Part) (x : Structure) (s : Below x (trimmed m (structure p))) where
  left_parts : (i a : ℕ) → i < p.round → x.left i a ≡ true → among (step_at p i) a ≡ true
  left_parts i a l e = (and_parts _ _ (and_parts _ _ (s.left i a l e)).1).1

  pub below_raw : Below x (raw p)
  below_raw = record {
    round = s.round;
    left = left_parts;
    possible = λ i f v l e. (and_parts _ _ (and_parts _ _ (s.possible i f v l e)).1).1;
  }

  pub factual : Factual m x
  factual i f v l e =
      let k = s.possible i f v (subst (λ (n : ℕ). i ≤ n) s.round l) e in
      ltb-true _ _ (and_parts _ _ (and_parts _ _ k).0).1

-- a structure below one that is trimmed, and with nothing past its round, is trimmed
pub trimmed_below : (m : Meaning) (o : Structure) (q : Part) → Below (structure q) (trimmed m o) → structure q ≡ trimmed m (structure q)
trimmed_below m o q s = same_structure (structure q) (trimmed m (structure q)) refl
    (λ i a. both_follow _ _ (lefts i a) (λ e. (and_parts _ _ e).1))
    (λ i f v. both_follow _ _ (values i f v) (λ e. (and_parts _ _ e).1))
  where
    lefts : (i a : ℕ) → (structure q).left i a ≡ true → (trimmed m (structure q)).left i a ≡ true
    lefts i a e =
        let w = and_parts _ _ e in
        let k = s.left i a (subst (λ (n : ℕ). i < n) s.round (ltb-true _ _ w.0)) e in
        and_from _ _ (and_from _ _ w.0 (and_parts (ltb i o.round) (ltb a m.actions) (and_parts (ltb i o.round && ltb a m.actions) (o.left i a) k).0).1) e

    values : (i f : ℕ) (v : Bool) → (structure q).possible i f v ≡ true → (trimmed m (structure q)).possible i f v ≡ true
    values i f v e =
        let w = and_parts _ _ e in
        let k = s.possible i f v (subst (λ (n : ℕ). i ≤ n) s.round (leb-true _ _ w.0)) e in
        and_from _ _ (and_from _ _ w.0 (and_parts (leb i o.round) (ltb f m.facts) (and_parts (leb i o.round && ltb f m.facts) (o.possible i f v) k).0).1) e

-- trimming twice is trimming once
and_again : (a b : Bool) → (a && (a && b)) ≡ (a && b)
and_again true b = refl
and_again false b = refl

pub trimmed_twice : (m : Meaning) (p : Structure) → trimmed m (trimmed m p) ≡ trimmed m p
trimmed_twice m p = same_structure (trimmed m (trimmed m p)) (trimmed m p) refl
    (λ i a. and_again (ltb i p.round && ltb a m.actions) (p.left i a)) (λ i f v. and_again (leb i p.round && ltb f m.facts) (p.possible i f v))

-- filtering what was trimmed is filtering
pub filtered_trimmed : (m : Meaning) (p q r : Structure) (stands : Bool) → q ≡ trimmed m p → Filtered m q stands r → Filtered m p stands r
filtered_trimmed m p q r stands e (kept is l) =
    let same : trimmed m q ≡ trimmed m p = ap (trimmed m) e ∙ trimmed_twice m p in
    kept is (record {
      consistent = l.consistent;
      below = subst (λ (s : Structure). Below r s) same l.below;
      above = λ x co s. l.above x co (subst (λ (y : Structure). Below x y) (sym same) s);
      trim = l.trim;
    })
filtered_trimmed m p q r stands e (wiped is none b) =
    let same : trimmed m q ≡ trimmed m p = ap (trimmed m) e ∙ trimmed_twice m p in
    wiped is (λ x co s. none x co (subst (λ (y : Structure). Below x y) (sym same) s)) (b ∙ ap (λ (s : Structure). bare s.round) e)

-- a restricted part
module _ (p r : Part) (actions : ActionSet) (values : Literals) (b : Restricted p actions values r) where
  pub emptied : ((n : ℕ) → among actions n ≡ false) → ((f : ℕ) (v : Bool) → has values f v ≡ false) → structure r ≡ bare p.round
  emptied no_action no_value = same_structure (structure r) (bare p.round) b.round
      (λ i n. false_from_ne_true _ (λ e.
      let w = and_parts _ _ e in
      both_ways _ (no_action n) (and_parts _ _ (sym (b.steps i n (subst (λ (k : ℕ). i < k) b.round (ltb-true _ _ w.0))) ∙ w.1)).1))
      (λ i f v. false_from_ne_true _ (λ e.
      let w = and_parts _ _ e in
      both_ways _ (no_value f v) (and_parts _ _ (sym (b.levels i f v (subst (λ (k : ℕ). i ≤ k) b.round (leb-true _ _ w.0))) ∙ w.1)).1))

  pub trims : (m : Meaning) → ((n : ℕ) → among actions n ≡ ltb n m.actions) → ((f : ℕ) (v : Bool) → has values f v ≡ ltb f m.facts) → structure r ≡ trimmed m (structure p)
  trims m actions_are values_are = same_structure (structure r) (trimmed m (structure p)) b.round
      (λ i n. both_follow _ _
      (λ e.
      let w = and_parts _ _ e in
      let l = subst (λ (k : ℕ). i < k) b.round (ltb-true _ _ w.0) in
      let k = and_parts _ _ (sym (b.steps i n l) ∙ w.1) in
      and_from _ _ (and_from _ _ (lt-ltb _ _ l) (sym (actions_are n) ∙ k.1)) (and_from _ _ (lt-ltb _ _ l) k.0))
      (λ e.
      let w = and_parts _ _ e in
      let u = and_parts _ _ w.0 in
      let l = ltb-true _ _ u.0 in
      and_from _ _ (lt-ltb _ _ (subst (λ (k : ℕ). i < k) (sym b.round) l))
      (b.steps i n l ∙ and_from _ _ (and_parts _ _ w.1).1 (actions_are n ∙ u.1))))
      (λ i f v. both_follow _ _
      (λ e.
      let w = and_parts _ _ e in
      let l = subst (λ (k : ℕ). i ≤ k) b.round (leb-true _ _ w.0) in
      let k = and_parts _ _ (sym (b.levels i f v l) ∙ w.1) in
      and_from _ _ (and_from _ _ (le-leb _ _ l) (sym (values_are f v) ∙ k.1)) (and_from _ _ (le-leb _ _ l) k.0))
      (λ e.
      let w = and_parts _ _ e in
      let u = and_parts _ _ w.0 in
      let l = leb-true _ _ u.0 in
      and_from _ _ (le-leb _ _ (subst (λ (k : ℕ). i ≤ k) (sym b.round) l))
      (b.levels i f v l ∙ and_from _ _ (and_parts _ _ w.1).1 (values_are f v ∙ u.1))))
