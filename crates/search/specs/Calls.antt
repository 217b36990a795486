-- The five calls: when one is refused, and what it does otherwise. Memories are of any kind X, given by what one recalls, what a
-- keep may make of it, and what emptying may make of it.
use Rattle.std.specs.Prelude.{◌≡◌, ℕ, ◌+◌, ◌≤◌, Bool, cond, ◌||◌, List, [], ◌∷◌, ◌++◌, length, drop, Some, None, Ok, Err, Option, Result, nat_le, nat_lt}
use Rattle.tasks.specs.Meaning.{Meaning}
use Rattle.search.specs.declared.call.Call.{Call}
use Rattle.search.specs.declared.call.Call.TheVariants.{Open, Advance, Lift, Verdict, Plan}
use Rattle.search.specs.declared.refusal.Refusal.{Refusal}
use Rattle.search.specs.declared.refusal.Refusal.TheVariants.{Blank, Bound, Amount, NotNone, NotFound, Buffer}
use Rattle.search.specs.Machines.{Stage, Machine, Made}
use Rattle.search.specs.Machines.Stage.{blank, unfinished, found, none}
use Rattle.search.specs.Steps.{Step, put_up}

-- The table of refusals, by the verdict that stands, the old bound and the call. Asking for the verdict is never refused.
abbrev pub refusal : Stage → ℕ → Call → Option Refusal
refusal blank old (Open k) = cond (nat_lt 30 k) (Some Bound) None
refusal unfinished old (Open k) = cond (nat_lt 30 k) (Some Bound) None
refusal (found acts) old (Open k) = cond (nat_lt 30 k) (Some Bound) None
refusal none old (Open k) = cond (nat_lt 30 k) (Some Bound) None
refusal blank old (Advance n) = Some Blank
refusal unfinished old (Advance n) = cond (nat_lt n 1 || nat_lt 1000000 n) (Some Amount) None
refusal (found acts) old (Advance n) = cond (nat_lt n 1 || nat_lt 1000000 n) (Some Amount) None
refusal none old (Advance n) = cond (nat_lt n 1 || nat_lt 1000000 n) (Some Amount) None
refusal blank old (Lift k) = Some Blank
refusal unfinished old (Lift k) = Some NotNone
refusal (found acts) old (Lift k) = Some NotNone
refusal none old (Lift k) = cond (nat_lt 30 k || nat_le k old) (Some Bound) None
refusal blank old Verdict = None
refusal unfinished old Verdict = None
refusal (found acts) old Verdict = None
refusal none old Verdict = None
refusal blank old (Plan n) = Some Blank
refusal unfinished old (Plan n) = Some NotFound
refusal (found acts) old (Plan n) = cond (nat_lt n (length acts)) (Some Buffer) None
refusal none old (Plan n) = Some NotFound

-- The call is refused for this reason, or for none.
abbrev pub Refuses : Machine → Call → Option Refusal → Type 0
Refuses S c why = refusal S.stage S.bound c ≡ why

module _ (X : Type 0) where
  -- A refused call changes neither the search nor the memory.
  pub record Refused (c : Call) (S : Machine) (x : X) (S' : Machine) (x' : X) (e : Refusal) : Type 0 where
    pub why : Refuses S c (Some e)
    pub search_same : S' ≡ S
    pub memory_same : x' ≡ x

  -- Opening empties the memory and puts up round 0.
  pub record Opened (empties : X → X → Type 0) (m : Meaning) (K : ℕ) (S : Machine) (x : X) (S' : Machine) (x' : X) : Type 0 where
    pub allowed : Refuses S (Open K) None
    pub search : S' ≡ put_up m K 0
    pub emptied : empties x x'

  abbrev pub Opening : (X → X → Type 0) → Meaning → ℕ → Machine → X → Machine → X → Result (Unit {0}) Refusal → Type 0
  Opening empties m K S x S' x' (Ok u) = Opened empties m K S x S' x'
  Opening empties m K S x S' x' (Err e) = Refused (Open K) S x S' x' e

  -- The pairs are kept one after the other.
  pub data Keeps (keeps : X → ℕ → ℕ → X → Type 0) : List (ℕ × ℕ) → X → X → Type 0 where
    no_pair : {x : X} → Keeps keeps [] x x
    one_pair : {s n : ℕ} {ks : List (ℕ × ℕ)} {x : X} {y : X} {z : X} → keeps x s n y → Keeps keeps ks y z → Keeps keeps ((s, n) ∷ ks) x z

  -- So many steps, one after the other, the pairs of each kept.
  pub data Steps (recall : X → ℕ → ℕ → Bool) (keeps : X → ℕ → ℕ → X → Type 0) (m : Meaning) (hopeless : ℕ → ℕ → Bool) : ℕ → Machine → X → Machine → X → Type 0 where
    no_step : {S : Machine} {x : X} → Steps recall keeps m hopeless 0 S x S x
    one_more : {n : ℕ} {S : Machine} {x : X} {S₁ : Machine} {x₁ : X} {made : Made} {x₂ : X} → Steps recall keeps m hopeless n S x S₁ x₁
        → Step m (recall x₁) hopeless S₁ made → Keeps keeps made.keeps x₁ x₂ → Steps recall keeps m hopeless (n + 1) S x made.machine x₂

  -- An amount of steps is made, fewer only if a verdict falls.
  pub record Advanced (recall : X → ℕ → ℕ → Bool) (keeps : X → ℕ → ℕ → X → Type 0) (m : Meaning) (hopeless : ℕ → ℕ → Bool) (amount : ℕ) (S : Machine) (x : X) (S' : Machine) (x' : X) (made : ℕ) : Type 0 where
    pub allowed : Refuses S (Advance amount) None
    pub steps : Steps recall keeps m hopeless made S x S' x'
    pub few : made ≤ amount
    pub all : S'.stage ≡ unfinished → made ≡ amount

  abbrev pub Advancing : (X → ℕ → ℕ → Bool) → (X → ℕ → ℕ → X → Type 0) → Meaning → (ℕ → ℕ → Bool) → ℕ → Machine → X → Machine → X → Result ℕ Refusal → Type 0
  Advancing recall keeps m hopeless amount S x S' x' (Ok made) = Advanced recall keeps m hopeless amount S x S' x' made
  Advancing recall keeps m hopeless amount S x S' x' (Err e) = Refused (Advance amount) S x S' x' e

-- A lift goes on with the round after the old bound.
pub record Lifted (m : Meaning) (K : ℕ) (S S' : Machine) : Type 0 where
  pub allowed : Refuses S (Lift K) None
  pub search : S' ≡ put_up m K (S.bound + 1)

abbrev pub Lifting : Meaning → ℕ → Machine → Machine → Result (Unit {0}) Refusal → Type 0
Lifting m K S S' (Ok u) = Lifted m K S S'
Lifting m K S S' (Err e) = Refuses S (Lift K) (Some e) × (S' ≡ S)

-- The plan that stands is written, and later bytes of the buffer stay.
pub record Planned (S : Machine) (b b' : List ℕ) (n : ℕ) : Type 0 where
  pub plan : List ℕ
  pub stands : S.stage ≡ found plan
  pub long : n ≡ length plan
  pub room : n ≤ length b
  pub written : b' ≡ plan ++ drop n b

abbrev pub Planning : Machine → List ℕ → List ℕ → Result ℕ Refusal → Type 0
Planning S b b' (Ok n) = Planned S b b' n
Planning S b b' (Err e) = Refuses S (Plan (length b)) (Some e) × (b' ≡ b)
