-- The loop: it begins with nothing lost, each turn goes on from the last, and where nothing is due in the end every stage
-- is consistent.
use Rattle.std.proofs.Common.{◌≡◌, ℕ, zero, suc, ◌^◌, ◌<◌, ◌≤◌, min, Bool, true, false, not, ◌&&◌, ◌||◌, eqb, ltb, Some, None, sym, refl, ap, ◌∙◌, subst, inl, inr, arith}
use Rattle.std.proofs.lemmas.Bool.{both_ways, and_parts, and_cases, ltb-true, lt-ltb}
use Rattle.sets.specs.Sets.{has, StageSet, marked}
use Rattle.sets.specs.declared.literals.Literals.{Literals}
use Rattle.tasks.specs.Meaning.{Meaning}
use Rattle.filter.specs.declared.outcome.Outcome.TheVariants.{Wiped}
use Rattle.filter.specs.declared.part.Part.{Part}
use Rattle.filter.specs.Structures.{Structure, Below}
use Rattle.filter.specs.Rules.{stage}
use Rattle.filter.specs.Filtering.{Consistent, ConsistentStage}
use Rattle.filter.specs.Kernel.{Covers}
use Rattle.filter.specs.Parts.{step_at, level_at, SamePast}
use Rattle.filter.specs.Stages.{ConsistentButAt}
use Rattle.filter.specs.Turns.{raw, burden, Factual, Narrowed, Turned, Progressed}
use Rattle.filter.specs.Loops.{Settling}
use Rattle.filter.proofs.Looking.{gone}
use Rattle.filter.proofs.Turning.{covered, covering, rise}

pub narrowed_same : (m : Meaning) (p : Part) → Narrowed m p p
narrowed_same m p = record {
  round = refl;
  less = record { round = refl; left = λ i a l e. e; possible = λ i f v l e. e };
  keeps = λ x co fa sub. sub;
  past = record { steps = λ i l. refl; levels = λ i l. refl };
}

pub past_on : (o p q : Part) → p.round ≡ o.round → SamePast o p → SamePast p q → SamePast o q
past_on o p q same a b = record {
  steps = λ i l. b.steps i (subst (λ (k : ℕ). k ≤ i) (sym same) l) ∙ a.steps i l;
  levels = λ i l. b.levels i (subst (λ (k : ℕ). k < i) (sym same) l) ∙ a.levels i l;
}

pub narrowed_on : (m : Meaning) (o p q : Part) → Narrowed m o p → Narrowed m p q → Narrowed m o q
narrowed_on m o p q a b =
    let same = a.round in
    record {
      round = b.round ∙ a.round;
      less = record {
        round = b.round ∙ a.round;
        left = λ i n l e. a.less.left i n l (b.less.left i n (subst (λ (k : ℕ). i < k) (sym same) l) e);
        possible = λ i f v l e. a.less.possible i f v l (b.less.possible i f v (subst (λ (k : ℕ). i ≤ k) (sym same) l) e);
      };
      keeps = λ x co fa sub. b.keeps x co fa (a.keeps x co fa sub);
      past = past_on o p q same a.past b.past;
    }

-- the stages due at first are those asked for that the part has
module _ (m : Meaning) (p : Part) (due low first : StageSet) (le : p.round ≤ 30) (low_is : (i : ℕ) → marked low i ≡ ltb i (min p.round 32)) (first_is : (i : ℕ) → marked first i ≡ (marked due i && marked low i)) where
  pub begun : Progressed m p first p first
  begun = record {
    narrowed = narrowed_same m p;
    under = λ i e. let k = ltb-true i (min p.round 32) (sym (low_is i) ∙ (and_parts (marked due i) (marked low i) (sym (first_is i) ∙ e)).1) in omega arith;
    firm = λ was. was;
  }

  pub firm_first : ConsistentButAt due m (raw p) → ConsistentButAt first m (raw p)
  firm_first was i l n = was i l (elim (and_cases _ _ (sym (first_is i) ∙ n))
      [ inl x ↦ x | inr x ↦ absurd (both_ways _ x (low_is i ∙ lt-ltb _ _ (omega arith))) ])

module _ (m : Meaning) (o : Part) (first : StageSet) (p : Part) (due rest : StageSet) (i : ℕ) (drops : (j : ℕ) → marked rest j ≡ (marked due j && not (eqb j i))) (was : Progressed m o first p due) where
  pub gone_on : (q : Part) (next : StageSet) → Turned m p i rest (Some next) q → Progressed m o first q next
  gone_on q next now =
      let same : p.round ≡ o.round = was.narrowed.round in
      record {
        narrowed = narrowed_on m o p q was.narrowed now.narrowed;
        under = λ j e. subst (λ (k : ℕ). j < k) same (now.under j e);
        firm = λ begin j l n. now.firm j (subst (λ (k : ℕ). j < k) now.narrowed.round l) n (λ off other. was.firm begin j (subst (λ (k : ℕ). j < k) now.narrowed.round l)
            (elim (gone (marked due) (marked rest) i drops j off) [ inl x ↦ x | inr e ↦ absurd (other e) ]));
      }

  pub lost : (q : Part) → Turned m p i rest None q → Settling m o first Wiped q
  lost q now = (
    λ x co fa sub. now.0 x co fa (was.narrowed.keeps x co fa sub),
    ap (λ (y : Part). y.round) now.1 ∙ was.narrowed.round,
    record {
      steps = λ j l. ap (λ (y : Part). step_at y j) now.1 ∙ was.narrowed.past.steps j l;
      levels = λ j l. ap (λ (y : Part). level_at y j) now.1 ∙ was.narrowed.past.levels j l;
    },
  )

  pub falls_on : (q : Part) (next : StageSet) → Turned m p i rest (Some next) q → next.bits < 2 ^ 32 → rest.bits < due.bits → burden q next < burden p due
  falls_on q next now small less = elim now.falls [
    | inl w ↦ omega arith
    | inr e ↦ let same : next.bits ≡ rest.bits = ap (λ (s : StageSet). s.bits) e.0 in omega (arith, e.1)
  ]

module _ (m : Meaning) (o : Part) (first : StageSet) (p : Part) (due : StageSet) (was : Progressed m o first p due) (none : (j : ℕ) → marked due j ≡ false)
    (all : Literals) (all_is : (f : ℕ) (v : Bool) → has all f v ≡ ltb f m.facts) where
  -- every stage is consistent, and level 0 was looked at
  pub whole : Covers (level_at p 0) all → ConsistentButAt first m (raw o) → Consistent m (raw p)
  whole start begin = record {
    closed = λ i l. (at i l).settled;
    action = λ i l. (at i l).action;
    value = values;
  }
    where
      at : (i : ℕ) → i < p.round → ConsistentStage m (stage (raw p) i)
      at i l = was.firm begin i l (none i)

      values : (i f : ℕ) → i ≤ p.round → f < m.facts → (has (level_at p i) f true || has (level_at p i) f false) ≡ true
      values zero f l lt = covered m.facts all (level_at p 0) all_is start f lt
      values (suc i) f l lt = (at i l).after f lt

  -- a level 0 without a value of some fact leaves nothing
  pub unwhole : (Covers (level_at p 0) all → ⊥) → (x : Structure) → Consistent m x → Factual m x → Below x (raw o) → ⊥
  unwhole hole x co fa sub =
      let low = was.narrowed.keeps x co fa sub in
      hole (covering m.facts all (level_at p 0) all_is (λ f lt. rise _ _ _ _ (low.possible 0 f true (omega arith)) (low.possible 0 f false (omega arith)) (co.value 0 f (omega arith) lt)))
