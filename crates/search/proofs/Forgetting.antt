-- Calls on a memory of any kind are calls on its pairs: how it stores them is forgotten.
use Rattle.std.proofs.Common.{◌≡◌, ℕ, Bool, List, Ok, Err, Result, ap, subst}
use mathlib.Core.Path.{fun_ext}
use Rattle.tasks.specs.Meaning.{Meaning}
use Rattle.memories.specs.Pairs.{Pairs, Kept, Emptied, recalls}
use Rattle.search.specs.declared.refusal.Refusal.{Refusal}
use Rattle.search.specs.Machines.{Machine, Made}
use Rattle.search.specs.Steps.{Step}
use Rattle.search.specs.Calls.{Keeps, Steps, Opening, Advancing}
use Rattle.search.specs.Calls.Keeps.{no_pair, one_pair}
use Rattle.search.specs.Calls.Steps.{no_step, one_more}

module _ (X : Type 0) (has : X → Pairs) where
  -- an opening leaves no pair
  pub forget_opening : (empties : X → X → Type 0) → ((x y : X) → empties x y → Emptied (has y)) → (m : Meaning) (K : ℕ) (S : Machine) (x : X) (S' : Machine) (x' : X) (r : Result (Unit {0}) Refusal)
      → Opening X empties m K S x S' x' r → Opening Pairs (λ _ Q. Emptied Q) m K S (has x) S' (has x') r
  forget_opening empties emptied m K S x S' x' (Ok u) o = record { allowed = o.allowed; search = o.search; emptied = emptied x x' o.emptied }
  forget_opening empties emptied m K S x S' x' (Err e) o = record { why = o.why; search_same = o.search_same; memory_same = ap has o.memory_same }

  module _ (recall : X → ℕ → ℕ → Bool) (keeps : X → ℕ → ℕ → X → Type 0) (recalled : (x : X) (s n : ℕ) → recall x s n ≡ recalls (has x) s n) (kept : (x : X) (s n : ℕ) (y : X) → keeps x s n y → Kept (has x) s n (has y)) where
    pub forget_keeps : {ks : List (ℕ × ℕ)} {x y : X} → Keeps X keeps ks x y → Keeps Pairs Kept ks (has x) (has y)
    forget_keeps no_pair = no_pair
    forget_keeps (one_pair {s} {n} {x = x} {y} one more) = one_pair (kept x s n y one) (forget_keeps more)

    forget_step : (m : Meaning) (h : ℕ → ℕ → Bool) (S : Machine) (x : X) (made : Made) → Step m (recall x) h S made → Step m (recalls (has x)) h S made
    forget_step m h S x made step = subst (λ (r : ℕ → ℕ → Bool). Step m r h S made) (fun_ext (λ s. fun_ext (λ n. recalled x s n))) step

    pub forget_steps : (m : Meaning) (h : ℕ → ℕ → Bool) {n : ℕ} {S : Machine} {x : X} {S' : Machine} {x' : X} → Steps X recall keeps m h n S x S' x' → Steps Pairs recalls Kept m h n S (has x) S' (has x')
    forget_steps m h no_step = no_step
    forget_steps m h (one_more {S₁ = S₁} {x₁} {made} before step ks) = one_more (forget_steps m h before) (forget_step m h S₁ x₁ made step) (forget_keeps ks)

    pub forget_advancing : (m : Meaning) (h : ℕ → ℕ → Bool) (amount : ℕ) (S : Machine) (x : X) (S' : Machine) (x' : X) (r : Result ℕ Refusal)
        → Advancing X recall keeps m h amount S x S' x' r → Advancing Pairs recalls Kept m h amount S (has x) S' (has x') r
    forget_advancing m h amount S x S' x' (Ok made) a = record { allowed = a.allowed; steps = forget_steps m h a.steps; few = a.few; all = a.all }
    forget_advancing m h amount S x S' x' (Err e) a = record { why = a.why; search_same = a.search_same; memory_same = ap has a.memory_same }
