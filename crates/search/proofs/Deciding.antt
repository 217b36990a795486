-- What one step makes of what the filter left, case by case: every step has one action, or a level up to the first step with a
-- choice is hopeless, or that step is split.
use Rattle.std.proofs.Common.{◌≡◌, ℕ, ◌+◌, ◌-◌, ◌<◌, Bool, true, false, cond, eqb, List, [], ◌∷◌, Some, None, Option, sym, refl, ap, ◌∙◌, arith}
use Rattle.std.proofs.lemmas.Bool.{eq-eqb, false≢true, ne_eqb}
use Rattle.tasks.specs.Meaning.{Meaning}
use Rattle.filter.specs.Structures.{Structure}
use Rattle.filter.specs.Filtering.{Filtered, Largest}
use Rattle.filter.specs.Filtering.Filtered.{kept, wiped}
use Rattle.search.specs.declared.fate.Fate.TheVariants.{Dropped, Split}
use Rattle.search.specs.declared.fate.Halves.{Halves}
use Rattle.search.specs.Machines.{Entry}
use Rattle.search.specs.Machines.Entry.{part, pair}
use Rattle.search.specs.Machines.Stage.{found, unfinished}
use Rattle.search.specs.Steps.{asked, below_halves, earlier, looked, lowest, next, plan_from, some_below, split, told, wide}
use Rattle.search.specs.Fates.{Halved, effect}
use Rattle.search.proofs.Telling.{told_same}

module _ (m : Meaning) (recall hopeless : ℕ → ℕ → Bool) (bound k : ℕ) (from : Option ℕ) (q : Structure) (rest : List Entry) where
  next_looks : (i : ℕ) → i ≡ lowest k (wide m q) → next m recall hopeless bound k from q rest true ≡ looked m recall hopeless bound k from q rest (eqb i k) i
  unfolding next
  next_looks i e = ap (λ j. looked m recall hopeless bound k from q rest (eqb j k) j) (sym e)

  pub next_found : k ≡ lowest k (wide m q) → next m recall hopeless bound k from q rest true ≡ record { machine = record { stage = found (plan_from m q k 0); bound = bound; round = k; entries = rest }; keeps = [] }
  unfolding looked
  next_found e = next_looks k e ∙ ap (λ b. looked m recall hopeless bound k from q rest b k) (eq-eqb k k refl)

  next_asks : (i : ℕ) → i ≡ lowest k (wide m q) → i < k → (b : Bool) → some_below (i + 1) (told m recall hopeless 0 k None q []) ≡ b
      → next m recall hopeless bound k from q rest true ≡ asked m recall hopeless bound k from q rest i b
  unfolding looked
  next_asks i e l b told_so =
      next_looks i e ∙ ap (λ x. looked m recall hopeless bound k from q rest x i) (ne_eqb i k (λ s. let z : ⊥ = omega arith in z))
      ∙ ap (asked m recall hopeless bound k from q rest i) (sym (told_same m recall hopeless bound k from q rest (i + 1)) ∙ told_so)

  pub next_dropped : (i : ℕ) → i ≡ lowest k (wide m q) → i < k → some_below (i + 1) (told m recall hopeless 0 k None q []) ≡ true
      → next m recall hopeless bound k from q rest true ≡ effect m Dropped bound k from rest
  unfolding asked
  next_dropped i e l told_so = next_asks i e l true told_so

  pub next_split : (i : ℕ) → i ≡ lowest k (wide m q) → i < k → some_below (i + 1) (told m recall hopeless 0 k None q []) ≡ false
      → (h : Halves) → Halved m q i h → next m recall hopeless bound k from q rest true ≡ effect m (Split h) bound k from rest
  unfolding asked split below_halves
  next_split i e l told_so h halved =
      next_asks i e l false told_so ∙ λ t. record {
        machine = record {
          stage = unfinished;
          bound = bound;
          round = k;
          entries = part (sym halved.first t) (Some (sym halved.step t)) ∷ part (sym halved.second t) (Some (sym halved.step t))
              ∷ cond (earlier from (sym halved.step t)) (pair (sym halved.state t) (k - sym halved.step t) ∷ rest) rest;
        };
        keeps = [];
      }

  pub next_wiped : next m recall hopeless bound k from q rest false ≡ effect m Dropped bound k from rest
  unfolding next
  next_wiped = refl

-- a part that stands is the largest consistent one
pub kept_largest : (m : Meaning) (p q : Structure) → Filtered m p true q → Largest m p q
kept_largest m p q (kept e l) = l
kept_largest m p q (wiped e n b) = absurd (false≢true (sym e))
