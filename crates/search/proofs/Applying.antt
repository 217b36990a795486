-- Carrying out a fate: what is left of a round where something or nothing is open, and what each fate comes to.
use Rattle.std.proofs.Common.{◌≡◌, ℕ, ◌+◌, ◌<◌, ◌≤◌, Bool, true, false, eqb, List, [], ◌∷◌, Some, None, Option, sym, refl, ap, ◌∙◌, subst, arith}
use Rattle.std.proofs.lemmas.Bool.{eq-eqb, ne_eqb}
use Rattle.tasks.specs.Meaning.{Meaning}
use Rattle.filter.specs.Structures.{Structure}
use Rattle.search.specs.declared.apply.Standing.{Standing}
use Rattle.search.specs.declared.fate.Fate.{Fate}
use Rattle.search.specs.declared.fate.Fate.TheVariants.{Dropped, Found, Split}
use Rattle.search.specs.Machines.{Entry, Made}
use Rattle.search.specs.Machines.Entry.{part, pair}
use Rattle.search.specs.Machines.Stage.{none, unfinished}
use Rattle.search.specs.Steps.{asked, first_part, looked, lowest, next, over, put_up, settle, some_below, split, told, wide}
use Rattle.search.specs.Calls.{Keeps}
use Rattle.search.specs.Entries.{below_pairs, pairs_on_top}
use Rattle.search.specs.Fates.{ComesTo, StepWithin, effect}
use Rattle.search.specs.Applied.{Applied, left_of_round, machine_with}
use Rattle.search.proofs.Lowest.{lowest_within}
use Rattle.search.proofs.Settling.{settle_is}

-- What is left of a round

pub stays : (m : Meaning) (bound k : ℕ) (es : List Entry) → (es ≡ [] → ⊥) → record { stage = unfinished; bound = bound; round = k; entries = es } ≡ left_of_round m bound k es
stays m bound k [] some = absurd (some refl)
stays m bound k (e ∷ es) some = refl

over_is : (m : Meaning) (bound k : ℕ) (es : List Entry) (b : Bool) → es ≡ [] → eqb k bound ≡ b → left_of_round m bound k es ≡ over m bound k b
over_is m bound k es b empty e = ap (left_of_round m bound k) empty ∙ ap (over m bound k) e

pub ends : (m : Meaning) (bound k : ℕ) (es : List Entry) → es ≡ [] → k ≡ bound → record { stage = none; bound = bound; round = k; entries = es } ≡ left_of_round m bound k es
unfolding over
ends m bound k es empty last = ap (λ xs. record { stage = none; bound = bound; round = k; entries = xs }) empty ∙ sym (over_is m bound k es true empty (eq-eqb k bound last))

pub puts_up : (m : Meaning) (bound k next : ℕ) (es es' : List Entry) → es ≡ [] → k < bound → next ≡ k + 1 → es' ≡ part (first_part m next) None ∷ es
    → record { stage = unfinished; bound = bound; round = next; entries = es' } ≡ left_of_round m bound k es
unfolding over put_up
puts_up m bound k next es es' empty below more at =
    ap (λ xs. record { stage = unfinished; bound = bound; round = next; entries = xs }) (at ∙ ap (λ xs. part (first_part m next) None ∷ xs) empty)
    ∙ ap (put_up m bound) more ∙ sym (over_is m bound k es false empty (ne_eqb k bound (λ s. omega (arith, s, below))))

-- What each fate comes to

module _ {X : Type 0} (keeps : X → ℕ → ℕ → X → Type 0) (m : Meaning) (fate : Fate) (bound k : ℕ) (from : Option ℕ) (rest : List Entry) where
  -- the pairs on top are kept, and the round goes on with what is below them
  pub dropped_applied : (mid es' : List Entry) (x x' : X) (r : Standing) → fate ≡ Dropped
      → mid ≡ below_pairs rest → Keeps X keeps (pairs_on_top rest) x x' → machine_with r es' ≡ left_of_round m bound k mid → Applied X keeps (effect m fate bound k from rest) es' x x' r
  dropped_applied mid es' x x' r is at kept goes =
      subst (λ (made : Made). Applied X keeps made es' x x' r) (sym (ap (λ (f : Fate). effect m f bound k from rest) is ∙ settle_is m bound k rest))
      (record { machine = goes ∙ ap (left_of_round m bound k) at; kept = kept })

-- what is carried out for the fate that a part has
pub as_fate : {X : Type 0} (keeps : X → ℕ → ℕ → X → Type 0) (m : Meaning) (fate f : Fate) (bound k : ℕ) (from : Option ℕ) (rest es' : List Entry) (x x' : X) (r : Standing) → fate ≡ f
    → Applied X keeps (effect m f bound k from rest) es' x x' r → Applied X keeps (effect m fate bound k from rest) es' x x' r
as_fate {X} keeps m fate f bound k from rest es' x x' r is done = subst (λ (g : Fate). Applied X keeps (effect m g bound k from rest) es' x x' r) (sym is) done

-- Where a part is split

-- the step that the parent of the newest part was split at is not past k
NewestWithin : List Entry → ℕ → Type 0
NewestWithin [] k = Unit {0}
NewestWithin (part p None ∷ rest) k = Unit {0}
NewestWithin (part p (Some i) ∷ rest) k = i ≤ k
NewestWithin (pair s n ∷ rest) k = Unit {0}

over_within : (m : Meaning) (bound k : ℕ) (b : Bool) → NewestWithin (over m bound k b).entries k
unfolding NewestWithin over put_up
over_within m bound k true = tt
over_within m bound k false = tt

asked_within : (m : Meaning) (recall hopeless : ℕ → ℕ → Bool) (bound k i : ℕ) (q : Structure) (b : Bool) → i ≤ k
    → NewestWithin (asked m recall hopeless bound k None q [] i b).machine.entries k
unfolding NewestWithin asked settle split
asked_within m recall hopeless bound k i q true l = over_within m bound k (eqb k bound)
asked_within m recall hopeless bound k i q false l = l

looked_within : (m : Meaning) (recall hopeless : ℕ → ℕ → Bool) (bound k i : ℕ) (q : Structure) (b : Bool) → i ≤ k
    → NewestWithin (looked m recall hopeless bound k None q [] b i).machine.entries k
unfolding NewestWithin looked
looked_within m recall hopeless bound k i q true l = tt
looked_within m recall hopeless bound k i q false l = asked_within m recall hopeless bound k i q (some_below (i + 1) (told m recall hopeless bound k None q [])) l

next_within : (m : Meaning) (recall hopeless : ℕ → ℕ → Bool) (bound k : ℕ) (q : Structure) (stands : Bool)
    → NewestWithin (next m recall hopeless bound k None q [] stands).machine.entries k
unfolding next settle
next_within m recall hopeless bound k q true = looked_within m recall hopeless bound k (lowest k (wide m q)) q (eqb (lowest k (wide m q)) k) (lowest_within k (wide m q))
next_within m recall hopeless bound k q false = over_within m bound k (eqb k bound)

-- a fate that is what one step makes splits no step past the round
pub comes_within : (m : Meaning) (recall hopeless : ℕ → ℕ → Bool) (q : Structure) (stands : Bool) (fate : Fate) → ComesTo m recall hopeless q stands fate → StepWithin fate q.round
unfolding NewestWithin
comes_within m recall hopeless q stands Dropped comes = tt
comes_within m recall hopeless q stands (Found p) comes = tt
comes_within m recall hopeless q stands (Split h) comes =
    subst (λ (made : Made). NewestWithin made.machine.entries q.round) (comes 0 None []) (next_within m recall hopeless 0 q.round q stands)
