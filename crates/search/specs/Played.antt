-- Lists of calls with their answers, and what then stands, in words of the calls and the answers alone.
use Rattle.std.specs.Prelude.{◌≡◌, ℕ, ◌+◌, ◌≤◌, min, Bool, true, false, List, [], ◌∷◌, ◌++◌, length, Ok, Err, Result, ◌≢◌}
use Rattle.estimators.specs.declared.estimator.Estimator as estimator
use Rattle.memories.specs.Pairs.{recalls}
use Rattle.memories.specs.declared.memory.Memory as memory
use Rattle.tasks.specs.Meaning.{Meaning}
use Rattle.tasks.specs.States.{Shortest, Solvable}
use Rattle.search.specs.declared.answer.Answer.{Answer}
use Rattle.search.specs.declared.answer.Answer.TheVariants.{Done, Made, Stands, Wrote}
use Rattle.search.specs.declared.call.Call.{Call}
use Rattle.search.specs.declared.call.Call.TheVariants as call
use Rattle.search.specs.declared.refusal.Refusal.{Refusal}
use Rattle.search.specs.declared.verdict.Verdict.{Verdict}
use Rattle.search.specs.declared.verdict.Verdict.TheVariants as verdict
use Rattle.search.specs.Calls.{Advancing, Lifting, Opening, Planning}
use Rattle.search.specs.Ceiling.{ceiling}
use Rattle.search.specs.Machines.{Machine}
use Rattle.search.specs.Runs.{verdict_of}

-- What calls and answers come to: whether an opening was accepted, the bound of the last opening or lift that was accepted, and
-- the amounts that were accepted since, as asked and not as made.
pub record Tally : Type 0 where
  pub opened : Bool
  pub bound : ℕ
  pub amount : ℕ

-- Before the first call.
abbrev pub untouched : Tally
untouched = record { opened = false; bound = 0; amount = 0 }

-- What an accepted call does to the tally.
abbrev pub tallied : Tally → Call → Tally
tallied t (call.Open k) = record { opened = true; bound = k; amount = 0 }
tallied t (call.Advance n) = record { opened = t.opened; bound = t.bound; amount = t.amount + n }
tallied t (call.Lift k) = record { opened = t.opened; bound = k; amount = 0 }
tallied t call.Verdict = t
tallied t (call.Plan n) = t

-- A call is accepted unless it is refused.
abbrev pub counting : Tally → Call → Result Answer Refusal → Tally
counting t c (Ok a) = tallied t c
counting t c (Err e) = t

-- The tally of a list of calls with their answers.
abbrev pub tally : Tally → List Call → List (Result Answer Refusal) → Tally
tally t [] answers = t
tally t (c ∷ calls) [] = t
tally t (c ∷ calls) (a ∷ answers) = tally (counting t c a) calls answers

-- What a call came to, as it is told.
abbrev pub told : {A : Type 0} → (A → Answer) → Result A Refusal → Result Answer Refusal
told f (Ok x) = Ok (f x)
told f (Err e) = Err e

module _ {X Y : Type 0} (M : memory.Ghosts X) (E : estimator.Ghosts Y) (m : Meaning) (e : Y) where
  -- A call was made, and answered what its own contract says. A plan has at most 30 actions, so 30 bytes stand for every longer buffer.
  abbrev pub Called : Call → Result Answer Refusal → Machine → X → Machine → X → Type 0
  Called (call.Open k) a S x S' x' = (r : Result (Unit {0}) Refusal) × (a ≡ told (λ _. Done) r) × Opening X M.empties m k S x S' x' r
  Called (call.Advance n) a S x S' x' = (r : Result ℕ Refusal) × (a ≡ told Made r) × Advancing X (λ y. recalls (M.has y)) M.keeps m (E.hopeless e m) n S x S' x' r
  Called (call.Lift k) a S x S' x' = (r : Result (Unit {0}) Refusal) × (a ≡ told (λ _. Done) r) × Lifting m k S S' r × (x' ≡ x)
  Called call.Verdict a S x S' x' = (a ≡ Ok (Stands (verdict_of S.stage S.bound))) × (S' ≡ S) × (x' ≡ x)
  Called (call.Plan n) a S x S' x' = (r : Result ℕ Refusal) × (b b' : List ℕ) × (length b ≡ min n 30) × (a ≡ told Wrote r) × Planning S b b' r × (S' ≡ S) × (x' ≡ x)

  -- The calls were made one after the other.
  pub data Calls : List Call → List (Result Answer Refusal) → Machine → X → Machine → X → Type 0 where
    no_call : {S : Machine} {x : X} → Calls [] [] S x S x
    one_call : {calls : List Call} {answers : List (Result Answer Refusal)} {S : Machine} {x : X} {S₁ : Machine} {x₁ : X} (c : Call) (a : Result Answer Refusal) {S₂ : Machine} {x₂ : X}
        → Calls calls answers S x S₁ x₁ → Called c a S₁ x₁ S₂ x₂ → Calls (calls ++ c ∷ []) (answers ++ a ∷ []) S x S₂ x₂

-- The law of what stands after calls with this tally on a task: the verdict, and the plan.
pub record StandsLawfully (m : Meaning) (t : Tally) (v : Verdict) (plan : List ℕ) : Type 0 where
  -- a plan that stands reaches the goals, every sequence of usable actions that reaches them has at least as many, and it is within the bound
  pub shortest : (n : ℕ) → v ≡ verdict.Found n → Shortest m plan × (length plan ≡ n) × (n ≤ t.bound)
  -- where none stands, it is told with the bound, and no sequence of up to the bound's number of usable actions reaches the goals
  pub nothing : (k : ℕ) → v ≡ verdict.None k → (k ≡ t.bound) × (Solvable m t.bound → ⊥)
  -- once the amounts reach the ceiling, a plan stands exactly if some sequence of up to the bound's number of usable actions
  -- reaches the goals, and otherwise none stands
  pub decided : t.opened ≡ true → ceiling m t.bound ≤ t.amount
      → ((n : ℕ) → v ≡ verdict.Found n → Solvable m t.bound) × (Solvable m t.bound → (n : ℕ) × (v ≡ verdict.Found n)) × ((Solvable m t.bound → ⊥) → v ≡ verdict.None t.bound)
  -- a search that was never opened is blank, and one that was opened is not
  pub blank : t.opened ≡ false → v ≡ verdict.Blank
  pub begun : t.opened ≡ true → v ≢ verdict.Blank
