-- Steps leave the bound as it is, and a search that was opened is never blank again.
use Rattle.std.proofs.Common.{◌≡◌, ℕ, Bool, true, false, eqb, List, [], ◌∷◌, refl, ◌∙◌, subst}
use Rattle.tasks.specs.Meaning.{Meaning}
use Rattle.search.specs.Machines.{Entry, Machine, Made, Stage}
use Rattle.search.specs.Machines.Entry.{part, pair}
use Rattle.search.specs.Machines.Stage.{blank, unfinished, found, none}
use Rattle.search.specs.Steps.{Step, over, put_up, settle, split}
use Rattle.search.specs.Calls.{Steps}
use Rattle.search.specs.Calls.Steps.{no_step, one_more}
use Rattle.search.proofs.Moves.{Move, moves}
use Rattle.search.proofs.Moves.Move.{finds, splits, drops}
use Rattle.search.proofs.Topping.{stays_within}

-- the search was opened
abbrev pub Begun : Stage → Type 0
Begun blank = ⊥
Begun unfinished = Unit {0}
Begun (found plan) = Unit {0}
Begun none = Unit {0}

pub not_blank : (s : Stage) → Begun s → s ≡ blank → ⊥
not_blank s h e = subst (λ (t : Stage). Begun t) e h

pub begun_from : (s : Stage) → (s ≡ blank → ⊥) → Begun s
begun_from blank h = h refl
begun_from unfinished h = tt
begun_from (found plan) h = tt
begun_from none h = tt

module _ (m : Meaning) (bound k : ℕ) where
  settle_begun : (kept : List (ℕ × ℕ)) (es : List Entry) → Begun (settle m bound k kept es).machine.stage
  unfolding settle over put_up
  settle_begun kept [] = go (eqb k bound)
    where
      go : (b : Bool) → Begun (over m bound k b).stage
      go true = tt
      go false = tt
  settle_begun kept (part p from ∷ es) = tt
  settle_begun kept (pair s n ∷ es) = settle_begun _ es

step_begun : (m : Meaning) (recall hopeless : ℕ → ℕ → Bool) (S : Machine) (made : Made) → Step m recall hopeless S made → Begun made.machine.stage
unfolding split
step_begun m recall hopeless S made step = go (moves m recall hopeless S made step)
  where
    go : {x : Made} → Move m recall hopeless S x → Begun x.machine.stage
    go (finds p q from rest e large single) = tt
    go (splits p q from rest i d e w quiet proper) = tt
    go (drops p from rest e dropped) = settle_begun m S.bound S.round [] rest

pub put_up_begun : (m : Meaning) (K k : ℕ) → ((put_up m K k).bound ≡ K) × Begun (put_up m K k).stage
unfolding put_up
put_up_begun m K k = (refl, tt)

pub steps_hold : (X : Type 0) (recall : X → ℕ → ℕ → Bool) (keeps : X → ℕ → ℕ → X → Type 0) (m : Meaning) (hopeless : ℕ → ℕ → Bool) {n : ℕ} {S : Machine} {x : X} {S' : Machine} {x' : X}
    → Steps X recall keeps m hopeless n S x S' x' → Begun S.stage → (S'.bound ≡ S.bound) × Begun S'.stage
steps_hold X recall keeps m hopeless no_step b = (refl, b)
steps_hold X recall keeps m hopeless (one_more steps step kept) b =
    ((stays_within m _ hopeless _ _ step).0 ∙ (steps_hold X recall keeps m hopeless steps b).0, step_begun m _ hopeless _ _ step)
