-- The law over whole runs. A run is any list of the five calls, accepted or refused, by anyone, from a blank search on.
use Rattle.std.specs.Prelude.{◌≡◌, ℕ, ◌+◌, ◌≤◌, Bool, List, length, take, Ok, Err, Result, ◌≢◌}
use Rattle.tasks.specs.Meaning.{Meaning, Lawful}
use Rattle.tasks.specs.States.{Shortest, Solvable}
use Rattle.memories.specs.Pairs.{Pairs, Kept, Emptied, recalls}
use Rattle.estimators.specs.Sound.{Sound}
use Rattle.search.specs.declared.refusal.Refusal.{Refusal}
use Rattle.search.specs.declared.verdict.Verdict.{Verdict}
use Rattle.search.specs.declared.verdict.Verdict.TheVariants.{Blank, Unfinished, Found, None}
use Rattle.search.specs.Machines.{Stage, Machine}
use Rattle.search.specs.Machines.Stage.{blank, unfinished, found, none}
use Rattle.search.specs.Calls.{Opening, Advancing, Lifting, Planning}
use Rattle.search.specs.Ceiling.{ceiling}

-- What the verdict call answers.
abbrev pub verdict_of : Stage → ℕ → Verdict
verdict_of blank bound = Blank
verdict_of unfinished bound = Unfinished
verdict_of (found plan) bound = Found (length plan)
verdict_of none bound = None bound

-- An amount counts as asked, not as made, and only where it is not refused.
abbrev pub counted : ℕ → Result ℕ Refusal → ℕ
counted amount (Ok made) = amount
counted amount (Err e) = 0

-- A lift that is not refused begins the count again.
abbrev pub recounted : ℕ → Result (Unit {0}) Refusal → ℕ
recounted n (Ok u) = 0
recounted n (Err e) = n

-- What a run can come to: the search, the memory's pairs, the task and the estimator's answers since the last opening, and the
-- amounts counted since the last opening or lift. Each link is what the call's own contract says, over any memory by its pairs.
pub data Run : Machine → Pairs → Meaning → (ℕ → ℕ → Bool) → ℕ → Type 0 where
  -- a new search is blank
  begins : {S : Machine} {P : Pairs} {m : Meaning} {h : ℕ → ℕ → Bool} → S.stage ≡ blank → Run S P m h 0
  -- an opening may bring another task, another memory and another estimator
  opens : {S : Machine} {P : Pairs} {m : Meaning} {h : ℕ → ℕ → Bool} {n : ℕ} → Run S P m h n
      → {S' : Machine} {Q' : Pairs} {m' : Meaning} {h' : ℕ → ℕ → Bool} (K : ℕ) (Q : Pairs) (u : Unit {0})
      → Lawful m' → Sound m' h' → Opening Pairs (λ _ R. Emptied R) m' K S Q S' Q' (Ok u) → Run S' Q' m' h' 0
  opens_not : {S : Machine} {P : Pairs} {m : Meaning} {h : ℕ → ℕ → Bool} {n : ℕ} → Run S P m h n
      → {S' : Machine} (m' : Meaning) (K : ℕ) (Q Q' : Pairs) (e : Refusal) → Opening Pairs (λ _ R. Emptied R) m' K S Q S' Q' (Err e) → Run S' P m h n
  advances : {S : Machine} {P : Pairs} {m : Meaning} {h : ℕ → ℕ → Bool} {n : ℕ} → Run S P m h n
      → {S' : Machine} {P' : Pairs} (amount : ℕ) (r : Result ℕ Refusal) → Advancing Pairs recalls Kept m h amount S P S' P' r → Run S' P' m h (n + counted amount r)
  lifts : {S : Machine} {P : Pairs} {m : Meaning} {h : ℕ → ℕ → Bool} {n : ℕ} → Run S P m h n
      → {S' : Machine} (K : ℕ) (r : Result (Unit {0}) Refusal) → Lifting m K S S' r → Run S' P m h (recounted n r)
  asks : {S : Machine} {P : Pairs} {m : Meaning} {h : ℕ → ℕ → Bool} {n : ℕ} → Run S P m h n
      → (v : Verdict) → v ≡ verdict_of S.stage S.bound → Run S P m h n
  plans : {S : Machine} {P : Pairs} {m : Meaning} {h : ℕ → ℕ → Bool} {n : ℕ} → Run S P m h n
      → (b b' : List ℕ) (r : Result ℕ Refusal) → Planning S b b' r → Run S P m h n

-- A plan stands.
abbrev pub Stands : Stage → Type 0
Stands stage = (plan : List ℕ) × (stage ≡ found plan)

-- The law, of the verdict that stands, the bound K, the task m and the amounts n counted.
pub record TheLaw (stage : Stage) (K : ℕ) (m : Meaning) (n : ℕ) : Type 0 where
  -- a plan that stands reaches the goals, and every sequence of usable actions that reaches them has at least as many
  pub shortest : (plan : List ℕ) → stage ≡ found plan → Shortest m plan
  -- where none stands, no sequence of up to the bound's number of usable actions reaches the goals
  pub nothing : stage ≡ none → Solvable m K → ⊥
  -- once the amounts counted reach the ceiling, a plan stands exactly if some sequence of up to the bound's number of usable
  -- actions reaches the goals, and otherwise none stands
  pub decided : (stage ≢ blank) → ceiling m K ≤ n
      → (Stands stage → Solvable m K) × (Solvable m K → Stands stage) × ((Solvable m K → ⊥) → stage ≡ none)

-- After every run the law holds of what then stands.
abbrev pub EveryRunIsLawful : Type 0
EveryRunIsLawful = (S : Machine) (P : Pairs) (m : Meaning) (h : ℕ → ℕ → Bool) (n : ℕ) → Run S P m h n → TheLaw S.stage S.bound m n

-- A plan that stands has at most the bound's number of actions.
abbrev pub HasRoomFor : Stage → ℕ → Type 0
HasRoomFor stage K = (plan : List ℕ) → stage ≡ found plan → length plan ≤ K

-- What the plan call writes after a run is a shortest plan.
abbrev pub WhatPlanWritesIsAShortestPlan : Type 0
WhatPlanWritesIsAShortestPlan = (S : Machine) (P : Pairs) (m : Meaning) (h : ℕ → ℕ → Bool) (n : ℕ) → Run S P m h n
    → (b b' : List ℕ) (r : ℕ) → Planning S b b' (Ok r) → Shortest m (take r b')

-- What an opening does to a run: where it is accepted a new run begins, with any sound estimator; where it is refused the old
-- run goes on.
abbrev pub OpensARun : Machine → Machine → Pairs → Meaning → Result (Unit {0}) Refusal → Type 0
OpensARun S S' Q' m' (Ok u) = (P : Pairs) (m : Meaning) (h : ℕ → ℕ → Bool) (n : ℕ) → Run S P m h n → (h' : ℕ → ℕ → Bool) → Sound m' h' → Run S' Q' m' h' 0
OpensARun S S' Q' m' (Err e) = (P : Pairs) (m : Meaning) (h : ℕ → ℕ → Bool) (n : ℕ) → Run S P m h n → Run S' P m h n

-- A call that only asks leaves every run as it is.
abbrev pub LeavesEveryRun : Machine → Machine → Type 0
LeavesEveryRun S S' = (P : Pairs) (m : Meaning) (h : ℕ → ℕ → Bool) (n : ℕ) → Run S P m h n → Run S' P m h n

-- After a run the plan that was written is a shortest one.
abbrev pub WritesAShortestPlan : Machine → List ℕ → Result ℕ Refusal → Type 0
WritesAShortestPlan S b' (Ok k) = (P : Pairs) (m : Meaning) (h : ℕ → ℕ → Bool) (n : ℕ) → Run S P m h n → Shortest m (take k b')
WritesAShortestPlan S b' (Err e) = Unit {0}

-- After a run in which a plan stands, the plan that was answered is a shortest one.
abbrev pub AnswersAShortestPlan : Machine → List ℕ → Type 0
AnswersAShortestPlan S plan = (P : Pairs) (m : Meaning) (h : ℕ → ℕ → Bool) (n : ℕ) → Run S P m h n → Stands S.stage → Shortest m plan
