-- What the calls do where the task, the search and the memory's rows are known: an opening up to a bound within the limit is not
-- refused, and an advance makes the steps that compute.
use Rattle.std.proofs.Common.{◌≡◌, ℕ, Bool, true, false, List, [], Some, None, Ok, Err, Option, Result, sym, refl, ap, ◌∙◌, subst, subst₂}
use Rattle.std.proofs.lemmas.Bool.{both_ways}
use Rattle.tasks.specs.Meaning.{Meaning}
use Rattle.memories.specs.declared.list.ListMemory.{ListMemory}
use Rattle.memories.specs.declared.row.Row.{Row}
use Rattle.memories.specs.contracts.list.ListMemoryMemory.TheImpl as list_memory
use Rattle.estimators.specs.GoalCounts.{goal_count}
use Rattle.search.specs.declared.call.Call.TheVariants.{Open, Advance}
use Rattle.search.specs.declared.refusal.Refusal.{Refusal}
use Rattle.search.specs.Machines.{Stage, Machine}
use Rattle.search.specs.Machines.Stage.{unfinished}
use Rattle.search.specs.Steps.{put_up}
use Rattle.search.specs.Calls.{refusal, Opening, Advancing}
use Rattle.examples.specs.Ends.{recalled, kept}
use Rattle.examples.proofs.Computing.{from, steps}
use Rattle.examples.proofs.Running.{advance_is}

abbrev is_some : Option Refusal → Bool
is_some None = false
is_some (Some e) = true

allowed : (why : Option Refusal) (e : Refusal) → why ≡ None → why ≡ Some e → ⊥
allowed why e p q = both_ways false refl (ap is_some (sym p ∙ q))

module _ (m : Meaning) (m₀ : Meaning) (same : m₀ ≡ m) where
  pub opening_is : (K : ℕ) → ((g : Stage) (old : ℕ) → refusal g old (Open K) ≡ None) → (S S' : Machine) (x y : ListMemory) (r : Result (Unit {0}) Refusal)
      → Opening ListMemory (list_memory.ghosts).empties m₀ K S x S' y r → (S' ≡ put_up m K 0) × (y ≡ [])
  opening_is K ok S S' x y (Ok u) o = (o.search ∙ ap (λ (t : Meaning). put_up t K 0) same, o.emptied)
  opening_is K ok S S' x y (Err e) o = absurd (allowed (refusal S.stage S.bound (Open K)) e (ok S.stage S.bound) o.why)

  module _ (n : ℕ) (ok : (old : ℕ) → refusal unfinished old (Advance n) ≡ None) (S : Machine) (going : S.stage ≡ unfinished) (S' : Machine) (x y : ListMemory) where
    advancing_is : (steps m (goal_count m) n (from S x)).sure ≡ true → (r : Result ℕ Refusal) → Advancing ListMemory recalled kept m (goal_count m) n S x S' y r
        → (r ≡ Ok n) × (S' ≡ (steps m (goal_count m) n (from S x)).machine) × (y ≡ (steps m (goal_count m) n (from S x)).rows)
    advancing_is e (Ok made) v = let u = advance_is m (goal_count m) n S x e S' y made v in (ap (λ (k : ℕ). Ok k) u.0, u.1, u.2)
    advancing_is e (Err why) v =
        absurd (allowed (refusal S.stage S.bound (Advance n)) why (subst (λ (g : Stage). refusal g S.bound (Advance n) ≡ None) (sym going) (ok S.bound)) v.why)

    pub advance_from : (rows : List Row) → (steps m (goal_count m) n (from S rows)).sure ≡ true → x ≡ rows → (S₀ : Machine) → S₀ ≡ S → (r : Result ℕ Refusal)
        → Advancing ListMemory recalled kept m₀ (goal_count m₀) n S₀ x S' y r
        → (r ≡ Ok n) × (S' ≡ (steps m (goal_count m) n (from S rows)).machine) × (y ≡ (steps m (goal_count m) n (from S rows)).rows)
    advance_from rows e q S₀ p r v =
        subst (λ (l : List Row). (r ≡ Ok n) × (S' ≡ (steps m (goal_count m) n (from S l)).machine) × (y ≡ (steps m (goal_count m) n (from S l)).rows)) q
        (advancing_is (subst (λ (l : List Row). (steps m (goal_count m) n (from S l)).sure ≡ true) (sym q) e) r
        (subst₂ (λ (t : Meaning) (M : Machine). Advancing ListMemory recalled kept t (goal_count t) n M x S' y r) same p v))
