-- What the calls promise, from what the loop and the restrictions leave.
use Rattle.std.proofs.Common.{◌≡◌, ℕ, ◌≤◌, min, Bool, true, false, ltb, Ok, sym, refl, ap, ◌∙◌, subst, arith}
use Rattle.std.proofs.lemmas.Bool.{both_ways, false≢true, lt-ltb}
use Rattle.sets.specs.Sets.{has, among, ActionSet, StageSet, marked}
use Rattle.sets.specs.declared.literals.Literals.{Literals}
use Rattle.tasks.specs.Meaning.{Meaning, Lawful}
use Rattle.filter.specs.declared.outcome.Outcome.{Outcome}
use Rattle.filter.specs.declared.outcome.Outcome.TheVariants.{Kept, Wiped}
use Rattle.filter.specs.declared.part.Part.{Part}
use Rattle.filter.specs.Structures.{Structure, Below, trimmed, bare}
use Rattle.filter.specs.Filtering.{Consistent, Filtered}
use Rattle.filter.specs.Filtering.Filtered.{kept, wiped}
use Rattle.filter.specs.Parts.{structure}
use Rattle.filter.specs.Plans.{trace}
use Rattle.filter.specs.Loops.{Settling, Restricted}
use Rattle.filter.specs.Calls.{stands, Filters, FiltersFrom, LosesNoPlan}
use Rattle.filter.proofs.Masking.{firm_raw, consistent_structure, below_structure, structure_below, below_raw, factual, trimmed_below, trimmed_twice, filtered_trimmed, emptied, trims}
use Rattle.filter.proofs.Settling.{past_on}
use Rattle.filter.proofs.Tracing.{loses_none, trace_consistent, trace_trimmed}

pub from_kept : (m : Meaning) (p q : Part) (due : StageSet) → p.round ≤ 30 → Settling m p due Kept q → FiltersFrom due m p (Ok Kept) q
from_kept m p q due le (n, settled) =
    let below : Below (structure q) (structure p) = structure_below p q n.less in
    let above : (x : Structure) → Consistent m x → Below x (trimmed m (structure p)) → Below x (structure q) = λ x co s. below_structure q x (n.keeps x co (factual m p x s) (below_raw m p x s)) in (
      le,
      (below, above),
      n.past,
      λ firm trim.
          let low : Below (structure q) (trimmed m (structure p)) = subst (λ (s : Structure). Below (structure q) s) trim below in
          kept refl (record { consistent = consistent_structure m q (settled (firm_raw m p due firm)); below = low; above = above; trim = trimmed_below m (structure p) q low }),
    )

pub from_wiped : (m : Meaning) (p q s : Part) (due : StageSet) (actions : ActionSet) (values : Literals) → p.round ≤ 30 → Settling m p due Wiped q
    → Restricted q actions values s → ((n : ℕ) → among actions n ≡ false) → ((f : ℕ) (v : Bool) → has values f v ≡ false)
    → FiltersFrom due m p (Ok Wiped) s
from_wiped m p q s due actions values le lost b no_action no_value =
    let bare_s : structure s ≡ bare p.round = emptied q s actions values b no_action no_value ∙ ap bare lost.1 in
    let none : (x : Structure) → Consistent m x → Below x (trimmed m (structure p)) → ⊥ = λ x co t. lost.0 x co (factual m p x t) (below_raw m p x t) in
    (le, (bare_s, none), past_on p q s lost.1 lost.2 b.past, λ firm trim. wiped refl none bare_s)

-- an outcome that stands is Kept
stands_kept : (o : Outcome) → stands o ≡ true → o ≡ Kept
stands_kept Kept e = refl
stands_kept Wiped e = absurd (false≢true e)

module _ (m : Meaning) (lw : Lawful m) (p r s : Part) (actions : ActionSet) (values : Literals) (due : StageSet) (o : Outcome) (le : p.round ≤ 30) (b : Restricted p actions values r)
    (actions_are : (n : ℕ) → among actions n ≡ ltb n m.actions) (values_are : (f : ℕ) (v : Bool) → has values f v ≡ ltb f m.facts)
    (due_is : (i : ℕ) → marked due i ≡ ltb i (min r.round 32)) (done : FiltersFrom due m r (Ok o) s) where
  filtered : Filtered m (structure p) (stands o) (structure s)
  filtered =
      let t : structure r ≡ trimmed m (structure p) = trims p r actions values b m actions_are values_are in
      filtered_trimmed m (structure p) (structure r) (structure s) (stands o) t
      (done.3 (λ i l off. absurd (both_ways _ off (due_is i ∙ lt-ltb _ _ (omega (arith, done.0)))))
      (t ∙ sym (trimmed_twice m (structure p)) ∙ ap (trimmed m) (sym t)))

  pub filters : Filters m p (Ok o) s
  filters = (le, filtered, past_on p r s b.round b.past done.2)

  pub plans_stay : LosesNoPlan m p (Ok o) s
  plans_stay _ acts sol s' = let k = loses_none m lw (structure p) (structure s) (stands o) filtered acts sol s' in (ap (λ (x : Outcome). Ok x) (stands_kept o k.0), k.1)

-- a plan is a consistent structure, and of these none is lost
pub plans_stay_from : (m : Meaning) → Lawful m → (p q : Part) (due : StageSet) (o : Outcome) → FiltersFrom due m p (Ok o) q → LosesNoPlan m p (Ok o) q
plans_stay_from m lw p q due Kept done _ acts sol s =
    (refl, done.1.1 (trace m acts) (trace_consistent m lw acts sol) (trace_trimmed m lw acts sol (structure p) s))
plans_stay_from m lw p q due Wiped done _ acts sol s =
    absurd (done.1.1 (trace m acts) (trace_consistent m lw acts sol) (trace_trimmed m lw acts sol (structure p) s))
