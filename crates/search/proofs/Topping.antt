-- While the search goes on the newest entry is a part; the bound stays, and the round does not pass it.
use Rattle.std.proofs.Common.{◌≡◌, ℕ, ◌≤◌, Bool, true, false, eqb, List, [], ◌∷◌, refl, arith}
use Rattle.std.proofs.lemmas.Bool.{eqb-false}
use Rattle.tasks.specs.Meaning.{Meaning}
use Rattle.filter.proofs.Values.{never}
use Rattle.search.specs.Machines.{Entry, Made}
use Rattle.search.specs.Machines.Entry.{part, pair}
use Rattle.search.specs.Machines.Stage.{unfinished}
use Rattle.search.specs.Steps.{put_up, over, settle, split}
use Rattle.search.specs.Depths.{Topped, EveryStepLeavesAPartOnTop, EveryStepKeepsTheRoundWithinTheBound}
use Rattle.search.proofs.Moves.{Move, moves}
use Rattle.search.proofs.Moves.Move.{finds, splits, drops}

module _ (m : Meaning) (bound k : ℕ) where
  pub put_up_topped : Topped (put_up m bound k).entries
  unfolding put_up
  put_up_topped = tt

  settle_topped : (kept : List (ℕ × ℕ)) (es : List Entry) → (settle m bound k kept es).machine.stage ≡ unfinished → Topped (settle m bound k kept es).machine.entries
  unfolding settle over put_up
  settle_topped kept [] e = go (eqb k bound) e
    where
      go : (b : Bool) → (over m bound k b).stage ≡ unfinished → Topped (over m bound k b).entries
      go true e = never cc
      go false e = tt
  settle_topped kept (part p from ∷ es) e = tt
  settle_topped kept (pair s n ∷ es) e = settle_topped _ es e

  settle_within : (kept : List (ℕ × ℕ)) (es : List Entry) → ((settle m bound k kept es).machine.bound ≡ bound) × (k ≤ bound → (settle m bound k kept es).machine.round ≤ bound)
  unfolding settle over put_up
  settle_within kept [] = go (eqb k bound) refl
    where
      go : (b : Bool) → eqb k bound ≡ b → ((over m bound k b).bound ≡ bound) × (k ≤ bound → (over m bound k b).round ≤ bound)
      go true e = (refl, λ le. le)
      go false e = (refl, λ le. let ne = eqb-false k bound e in omega (arith, ne))
  settle_within kept (part p from ∷ es) = (refl, λ le. le)
  settle_within kept (pair s n ∷ es) = settle_within _ es

pub stays_topped : EveryStepLeavesAPartOnTop
unfolding split
stays_topped m recall hopeless S made step = go (moves m recall hopeless S made step)
  where
    go : {x : Made} → Move m recall hopeless S x → x.machine.stage ≡ unfinished → Topped x.machine.entries
    go (finds p q from rest e large single) u = never cc
    go (splits p q from rest i d e w quiet proper) u = tt
    go (drops p from rest e dropped) u = settle_topped m S.bound S.round [] rest u

pub stays_within : EveryStepKeepsTheRoundWithinTheBound
unfolding split
stays_within m recall hopeless S made step = go (moves m recall hopeless S made step)
  where
    go : {x : Made} → Move m recall hopeless S x → (x.machine.bound ≡ S.bound) × (S.round ≤ S.bound → x.machine.round ≤ S.bound)
    go (finds p q from rest e large single) = (refl, λ le. le)
    go (splits p q from rest i d e w quiet proper) = (refl, λ le. le)
    go (drops p from rest e dropped) = settle_within m S.bound S.round [] rest
