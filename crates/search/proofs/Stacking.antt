-- What the stack keeps: every plan of the round is held, and what a pair awaits is held above it. So a pair whose turn it is to be
-- kept is hopeless, and a round with nothing open had no plan.
use Rattle.std.proofs.Common.{◌≡◌, ℕ, ◌+◌, ◌-◌, ◌<◌, ◌≤◌, Bool, true, false, cond, not, eqb, ◌⊎◌, List, [], ◌∷◌, ◌++◌, length, Some, None, Option, sym, refl, ◌∙◌, subst, subst₂, inl, inr, append_assoc, append-nil, arith, length-append}
use Rattle.std.proofs.lemmas.Bool.{cases_lt, ltb-true, eqb-true, eqb-false}
use Rattle.tasks.specs.Meaning.{Meaning, Lawful}
use Rattle.tasks.specs.States.{Solves, Shortest, Hopeless}
use Rattle.filter.specs.Structures.{Structure}
use Rattle.filter.specs.Plans.{Inside, state_of}
use Rattle.filter.proofs.Values.{never}
use Rattle.memories.specs.Pairs.{Pairs, Kept, recalls}
use Rattle.estimators.specs.Sound.{Sound}
use Rattle.search.specs.Machines.{Entry, Machine, Made}
use Rattle.search.specs.Machines.Entry.{part, pair}
use Rattle.search.specs.Machines.Stage.{unfinished}
use Rattle.search.specs.Steps.{first_part, put_up, over, settle, half, plan_from, earlier, below_halves, split, Step}
use Rattle.search.specs.Calls.{Keeps}
use Rattle.search.specs.Calls.Keeps.{no_pair, one_pair}
use Rattle.search.proofs.Moves.{Move, moves}
use Rattle.search.proofs.Moves.Move.{finds, splits, drops}
use Rattle.search.proofs.Invariant.{OpenEnded, AllOpenEnded, Awaits, Backed, NoneShorter, Going, Honest, Invariant}
use Rattle.search.proofs.Parting.{first_open, in_a_half, filtered_inside, half_open, awaits, drops_nothing, found_shortest}

-- the pairs that settling keeps
unfoldable pub popped : List Entry → List (ℕ × ℕ)
popped [] = []
popped (part p from ∷ es) = []
popped (pair s n ∷ es) = (s, n) ∷ popped es

pub settle_keeps : (m : Meaning) (bound k : ℕ) (kept : List (ℕ × ℕ)) (es : List Entry) → (settle m bound k kept es).keeps ≡ kept ++ popped es
unfolding settle popped
settle_keeps m bound k kept [] = sym (append-nil kept)
settle_keeps m bound k kept (part p from ∷ es) = sym (append-nil kept)
settle_keeps m bound k kept (pair s n ∷ es) = settle_keeps m bound k (kept ++ (s, n) ∷ []) es ∙ append_assoc kept ((s, n) ∷ []) (popped es)

module _ (m : Meaning) (k : ℕ) where
  -- more may be held
  backed_more : (es : List Entry) (held more : List ℕ → Type 0) → ((acts : List ℕ) → length acts ≡ k → Solves m acts → held acts → more acts) → Backed m k held es → Backed m k more es
  backed_more [] held more f b = λ acts e sol. f acts e sol (b acts e sol)
  backed_more (part p from ∷ es) held more f b =
      backed_more es (λ acts. held acts ⊎ Inside m p acts) (λ acts. more acts ⊎ Inside m p acts) (λ acts e sol x. elim x [ inl y ↦ inl (f acts e sol y) | inr z ↦ inr z ]) b
  backed_more (pair s n ∷ es) held more f b =
      let a = b.0 in (
        record {
          way = a.way;
          long = a.long;
          leads = a.leads;
          rests = λ rest e r. f (a.way ++ rest) (rw length-append (let l = a.long in omega arith)) (a.leads rest r) (a.rests rest e r);
        },
        backed_more es held more f b.1,
      )

  -- a pair on top is true
  top_honest : (s n : ℕ) → NoneShorter m k → Awaits m k (λ _. ⊥) s n → Hopeless m s n
  top_honest s n shorter a rest le r = elim (cases_lt (length rest) n) [
    | inl lt ↦ let l = a.long in let b : k ≤ length (a.way ++ rest) = shorter (a.way ++ rest) (a.leads rest r) in let z = length-append a.way rest in omega arith
    | inr ge ↦ a.rests rest (omega arith) r
  ]

  longer : NoneShorter m k → ((acts : List ℕ) → length acts ≡ k → Solves m acts → ⊥) → NoneShorter m (k + 1)
  longer shorter f acts sol =
      let l = shorter acts sol in
      elim (cases_lt k (length acts)) [ inl lt ↦ omega arith | inr le ↦ absurd (f acts (omega arith) sol) ]

live : (m : Meaning) (S : Machine) (P : Pairs) → S.stage ≡ unfinished → Honest m P → Going m S → Invariant m S P
live m S P u honest g = record { honest = honest; going = λ _. g; plan = λ acts e. never cc; nothing = λ e. never cc }

-- a round that begins: nothing is shorter, and its first part holds all
pub begins : (m : Meaning) → Lawful m → (bound k : ℕ) (P : Pairs) → k ≤ bound → NoneShorter m k → Honest m P → Invariant m (put_up m bound k) P
unfolding put_up
begins m lw bound k P le shorter honest =
    let oe : OpenEnded m k (first_part m k) None = first_open m lw k in
    live m (put_up m bound k) P refl honest record { within = le; shorter = shorter; ended = (oe, tt); backed = λ acts e sol. inr (oe.holds acts e sol tt); topped = tt }

settles : (m : Meaning) → Lawful m → (bound k : ℕ) → k ≤ bound → NoneShorter m k → (kept : List (ℕ × ℕ)) (es : List Entry) (P P' : Pairs) → Keeps Pairs Kept (popped es) P P'
    → Honest m P → AllOpenEnded m k es → Backed m k (λ _. ⊥) es → Invariant m (settle m bound k kept es).machine P'
unfolding settle over popped
settles m lw bound k le shorter kept [] P P' no_pair honest ended backed = go (eqb k bound) refl
  where
    go : (b : Bool) → eqb k bound ≡ b → Invariant m (over m bound k b) P
    go true e = record {
      honest = honest;
      going = λ u. never cc;
      plan = λ acts u. never cc;
      nothing = λ u acts sol. let same = eqb-true k bound e in let l = longer m k shorter backed acts sol in omega arith;
    }
    go false e = let ne = eqb-false k bound e in begins m lw bound (k + 1) P (omega (arith, ne)) (longer m k shorter backed) honest
settles m lw bound k le shorter kept (part p from ∷ es) P P' no_pair honest ended backed =
    live m _ P refl honest record { within = le; shorter = shorter; ended = ended; backed = backed; topped = tt }
settles m lw bound k le shorter kept (pair s n ∷ es) P P' (one_pair {y = Q} one more) honest ended backed =
    settles m lw bound k le shorter (kept ++ (s, n) ∷ []) es Q P' more
    (λ r l e. elim (one r l e) [ inl old ↦ honest r l old | inr new ↦ subst₂ (λ (x y : ℕ). Hopeless m x y) (sym new.0) (sym new.1) (top_honest m k s n shorter backed.0) ])
    ended backed.1

module _ (m : Meaning) (lw : Lawful m) (hopeless : ℕ → ℕ → Bool) (sound : Sound m hopeless) (S : Machine) (P : Pairs) (g : Going m S) (honest : Honest m P) where
  record Taken (p : Structure) (from : Option ℕ) (rest : List Entry) : Type 0 where
    open_ended : OpenEnded m S.round p from
    ended : AllOpenEnded m S.round rest
    backed : Backed m S.round (λ acts. ⊥ ⊎ Inside m p acts) rest

  take : (p : Structure) (from : Option ℕ) (rest : List Entry) → S.entries ≡ part p from ∷ rest → Taken p from rest
  take p from rest e =
      let x : AllOpenEnded m S.round (part p from ∷ rest) = subst (λ (y : List Entry). AllOpenEnded m S.round y) e g.ended in
      let b : Backed m S.round (λ _. ⊥) (part p from ∷ rest) = subst (λ (y : List Entry). Backed m S.round (λ _. ⊥) y) e g.backed in
      record { open_ended = x.0; ended = x.1; backed = b }

  earlier_than : (from : Option ℕ) (i : ℕ) → earlier from i ≡ true → (j : ℕ) → from ≡ Some j → j < i
  unfolding earlier
  earlier_than None i t j e = never cc
  earlier_than (Some l) i t j e = let same : l ≡ j = cc in omega (arith, ltb-true l i t)

  -- the pair waits under the halves, or not
  waits : (from : Option ℕ) (q : Structure) (rest : List Entry) (i : ℕ) (held : List ℕ → Type 0) → (((j : ℕ) → from ≡ Some j → j < i) → Awaits m S.round held (state_of m q i) (S.round - i))
      → AllOpenEnded m S.round rest → Backed m S.round held rest
      → AllOpenEnded m S.round (below_halves m (recalls P) hopeless S.bound S.round from q rest i) × Backed m S.round held (below_halves m (recalls P) hopeless S.bound S.round from q rest i)
  unfolding below_halves
  waits from q rest i held f a b = go (earlier from i) refl
    where
      below : Bool → List Entry
      below t = cond t (pair (state_of m q i) (S.round - i) ∷ rest) rest

      go : (t : Bool) → earlier from i ≡ t → AllOpenEnded m S.round (below t) × Backed m S.round held (below t)
      go true e = (a, (f (earlier_than from i e), b))
      go false e = (a, b)

  moved : {x : Made} → Move m (recalls P) hopeless S x → (P' : Pairs) → Keeps Pairs Kept x.keeps P P' → Invariant m x.machine P'
  unfolding split
  moved (finds p q from rest e large single) P' no_pair =
      let t = take p from rest e in
      let s = found_shortest m lw S.round p from t.open_ended g.shorter q large single in
      record {
        honest = honest;
        going = λ u. never cc;
        plan = λ others u. let same : plan_from m q S.round 0 ≡ others = cc in subst (λ (x : List ℕ). Shortest m x × (length x ≤ S.bound)) same (s.0, omega (arith, s.1, g.within));
        nothing = λ u. never cc;
      }
  moved (splits p q from rest i d e w quiet proper) P' no_pair =
      let t = take p from rest e in
      let k = S.round in
      let one = half m q i d in
      let other = half m q i (λ a. not (d a)) in
      let held : List ℕ → Type 0 = λ acts. (⊥ ⊎ Inside m one acts) ⊎ Inside m other acts in
      let halved : (acts : List ℕ) → length acts ≡ k → Solves m acts → Inside m q acts → held acts
      = λ acts l sol s. elim (in_a_half m lw q i d acts s) [ inl x ↦ inl (inr x) | inr y ↦ inr y ] in
      let b : Backed m k held rest = backed_more m k rest (λ acts. ⊥ ⊎ Inside m p acts) held
      (λ acts l sol x. elim x [ inl z ↦ absurd z | inr y ↦ halved acts l sol (filtered_inside m lw k p from t.open_ended q i w acts sol y) ]) t.backed in
      let u = waits from q rest i held (awaits m lw k p from t.open_ended q i w held halved) t.ended b in
      let oe = half_open m lw k p from t.open_ended q i w in
      live m _ P refl honest record { within = g.within; shorter = g.shorter; ended = (oe d, (oe (λ a. not (d a)), u.0)); backed = u.1; topped = tt }
  moved (drops p from rest e dropped) P' keeps =
      let t = take p from rest e in
      let k = S.round in
      let b : Backed m k (λ _. ⊥) rest = backed_more m k rest (λ acts. ⊥ ⊎ Inside m p acts) (λ _. ⊥)
      (λ acts l sol x. elim x [ inl z ↦ z | inr y ↦ drops_nothing m lw hopeless sound P honest k p from t.open_ended dropped acts l sol y ]) t.backed in
      settles m lw S.bound k g.within g.shorter [] rest P P' (subst (λ (x : List (ℕ × ℕ)). Keeps Pairs Kept x P P') (settle_keeps m S.bound k [] rest) keeps) honest t.ended b

-- every step keeps the invariant
pub stepping : (m : Meaning) → Lawful m → (hopeless : ℕ → ℕ → Bool) → Sound m hopeless → (S : Machine) (P : Pairs) (made : Made) (P' : Pairs) → Step m (recalls P) hopeless S made → Keeps Pairs Kept made.keeps P P'
    → Invariant m S P → Invariant m made.machine P'
stepping m lw hopeless sound S P made P' step keeps v = moved m lw hopeless sound S P (v.going step.going) v.honest (moves m (recalls P) hopeless S made step) P' keeps
