-- Every run keeps what the law needs, call by call: the invariant, and that what was counted and what can still be made are at most the ceiling.
use Rattle.std.proofs.Common.{◌≡◌, ℕ, suc, ◌+◌, ◌<◌, ◌≤◌, Bool, true, false, cond, ◌||◌, ltb, leb, List, ◌∷◌, length, take, drop, Some, None, Ok, Err, Option, sym, refl, ap, subst, add-zero, add_assoc, arith}
use Rattle.std.proofs.Math.Seq.{take-append_seam}
use Rattle.std.proofs.lemmas.Bool.{leb-false}
use Rattle.tasks.specs.Meaning.{Meaning, Lawful}
use Rattle.tasks.specs.States.{Shortest, Solvable}
use Rattle.filter.specs.Structures.{Structure}
use Rattle.filter.proofs.Values.{never}
use Rattle.memories.specs.Pairs.{Pairs, Kept, Emptied, recalls}
use Rattle.estimators.specs.Sound.{Sound}
use Rattle.search.specs.declared.call.Call.TheVariants.{Advance, Lift}
use Rattle.search.specs.declared.refusal.Refusal.TheVariants.{Bound}
use Rattle.search.specs.Machines.{Entry, Stage, Machine, Made}
use Rattle.search.specs.Machines.Entry.{part}
use Rattle.search.specs.Machines.Stage.{blank, unfinished, found, none}
use Rattle.search.specs.Steps.{put_up, Step}
use Rattle.search.specs.Calls.{refusal, Keeps, Steps}
use Rattle.search.specs.Calls.Steps.{no_step, one_more}
use Rattle.search.specs.Ceiling.{ceiling}
use Rattle.search.specs.Runs.{HasRoomFor, Run, Stands, TheLaw, EveryRunIsLawful, WhatPlanWritesIsAShortestPlan}
use Rattle.search.specs.Runs.Run.{begins, opens, opens_not, advances, lifts, asks, plans}
use Rattle.search.proofs.Invariant.{AllOpenEnded, Invariant}
use Rattle.search.proofs.Stacking as Stacking
use Rattle.search.proofs.Sizing.{cost_left, costs_one, put_up_costs, opening_costs, unfinished_costs}
use Rattle.search.proofs.Topping.{stays_within}

record Live (S : Machine) (P : Pairs) (m : Meaning) (h : ℕ → ℕ → Bool) (n : ℕ) : Type 0 where
  lawful : Lawful m
  sound : Sound m h
  keeps : Invariant m S P
  spent : S.stage ≡ unfinished → n + cost_left m S ≤ ceiling m S.bound

data Good (S : Machine) (P : Pairs) (m : Meaning) (h : ℕ → ℕ → Bool) (n : ℕ) : Type 0 where
  idle : S.stage ≡ blank → Good S P m h n
  live : Live S P m h n → Good S P m h n

step_live : (m : Meaning) (h : ℕ → ℕ → Bool) (S : Machine) (P : Pairs) (made : Made) (P' : Pairs) (n : ℕ) → Live S P m h n → Step m (recalls P) h S made → Keeps Pairs Kept made.keeps P P' → Live made.machine P' m h (n + 1)
step_live m h S P made P' n l s k =
    let g = l.keeps.going s.going in
    let rounds : (p : Structure) (from : Option ℕ) (rest : List Entry) → S.entries ≡ part p from ∷ rest → p.round ≡ S.round
    = λ p from rest e. (subst (λ (x : List Entry). AllOpenEnded m S.round x) e g.ended).0.round in
    record {
      lawful = l.lawful;
      sound = l.sound;
      keeps = Stacking.stepping m l.lawful h l.sound S P made P' s k l.keeps;
      spent = λ e. omega (arith, l.spent s.going, costs_one m (recalls P) h S made rounds g.within s e, ap (λ b. ceiling m b) (stays_within m (recalls P) h S made s).0);
    }

steps_live : {m : Meaning} {h : ℕ → ℕ → Bool} {k : ℕ} {S : Machine} {P : Pairs} {S' : Machine} {P' : Pairs} → Steps Pairs recalls Kept m h k S P S' P' → (n : ℕ) → Live S P m h n → Live S' P' m h (n + k)
steps_live no_step n l = rw add-zero l
steps_live (one_more {n = k} s t kept) n l = rw add_assoc at (step_live _ _ _ _ _ _ _ (steps_live s n l) t kept)

-- an amount counts as asked, which differs from the steps made only where the search has ended
asked : {S : Machine} {P : Pairs} {m : Meaning} {h : ℕ → ℕ → Bool} (n made amount : ℕ) → (S.stage ≡ unfinished → made ≡ amount) → Live S P m h (n + made) → Live S P m h (n + amount)
asked n made amount all l = record { lawful = l.lawful; sound = l.sound; keeps = l.keeps; spent = λ e. omega (arith, all e, l.spent e) }

pub blank_refuses : {X : Type 0} (v : Stage) (old amount : ℕ) → refusal v old (Advance amount) ≡ None → v ≡ blank → X
blank_refuses blank old amount e b = never cc
blank_refuses unfinished old amount e b = never cc
blank_refuses (found acts) old amount e b = never cc
blank_refuses none old amount e b = never cc

second_no : (b c : Bool) → cond (b || c) (Some Bound) None ≡ None → c ≡ false
second_no true c e = never cc
second_no false true e = never cc
second_no false false e = refl

pub lift_allowed : (v : Stage) (old K : ℕ) → refusal v old (Lift K) ≡ None → (v ≡ none) × (old < K)
lift_allowed blank old K e = never cc
lift_allowed unfinished old K e = never cc
lift_allowed (found acts) old K e = never cc
lift_allowed none old K e = (refl, leb-false K old (second_no (ltb 30 K) (leb K old) e))

opened : (m : Meaning) (h : ℕ → ℕ → Bool) (K : ℕ) (P : Pairs) → Lawful m → Sound m h → Emptied P → Live (put_up m K 0) P m h 0
unfolding put_up
opened m h K P lw sd empty = record {
  lawful = lw;
  sound = sd;
  keeps = Stacking.begins m lw K 0 P (omega arith) (λ acts sol. omega arith) (λ s n e. let z = empty s n in never cc);
  spent = λ e. omega (arith, opening_costs m K);
}

lifted : (m : Meaning) (h : ℕ → ℕ → Bool) (K : ℕ) (S : Machine) (P : Pairs) (n : ℕ) → S.stage ≡ none → S.bound < K → Live S P m h n → Live (put_up m K (S.bound + 1)) P m h 0
unfolding put_up
lifted m h K S P n e lt l = record {
  lawful = l.lawful;
  sound = l.sound;
  keeps = Stacking.begins m l.lawful K (S.bound + 1) P (omega arith) (l.keeps.nothing e) l.keeps.honest;
  spent = λ u.
      let same : cost_left m (put_up m K (S.bound + 1)) ≡ cost_left m (put_up m K (suc S.bound)) = ap (λ k. cost_left m (put_up m K k)) (let s : S.bound + 1 ≡ suc S.bound = omega arith in s) in
      omega (arith, put_up_costs m K S.bound lt);
}

good : {S : Machine} {P : Pairs} {m : Meaning} {h : ℕ → ℕ → Bool} {n : ℕ} → Run S P m h n → Good S P m h n
good (begins e) = idle e
good (opens r {Q' = Q'} {m' = m'} {h' = h'} K Q u lw sd o) = rw o.search (live (opened m' h' K Q' lw sd o.emptied))
good (opens_not r m' K Q Q' e o) = rw o.search_same (good r)
good (advances {S} {n = n} r amount (Ok made) o) = elim (good r) [
  | idle b ↦ blank_refuses S.stage S.bound amount o.allowed b
  | live l ↦ live (asked n made amount o.all (steps_live o.steps n l))
]
good (advances r amount (Err e) o) = rw (o.search_same, o.memory_same, add-zero) (good r)
good (lifts {S} {P} {m} {h} {n} r K (Ok u) o) =
    let a = lift_allowed S.stage S.bound K o.allowed in
    rw o.search (elim (good r) [ idle b ↦ let z = a.0 in never cc | live l ↦ live (lifted m h K S P n a.0 a.1 l) ])
good (lifts r K (Err e) o) = rw o.1 (good r)
good (asks r v e) = good r
good (plans r b b' a e) = good r

lawful_now : (S : Machine) (P : Pairs) (m : Meaning) (h : ℕ → ℕ → Bool) (n : ℕ) → Good S P m h n → TheLaw S.stage S.bound m n
lawful_now S P m h n (idle b) = record { shortest = λ acts e. never cc; nothing = λ e. never cc; decided = λ not_blank c. absurd (not_blank b) }
lawful_now S P m h n (live l) = record {
  shortest = λ acts e. (l.keeps.plan acts e).0;
  nothing = λ e w. none_left e w;
  decided = λ not_blank c. over S.stage refl not_blank c;
}
  where
    none_left : S.stage ≡ none → Solvable m S.bound → ⊥
    none_left e w = let x = l.keeps.nothing e w.0 w.2 in omega (arith, w.1)

    over : (v : Stage) → S.stage ≡ v → (S.stage ≡ blank → ⊥) → ceiling m S.bound ≤ n → (Stands S.stage → Solvable m S.bound) × (Solvable m S.bound → Stands S.stage) × ((Solvable m S.bound → ⊥) → S.stage ≡ none)
    over blank q not_blank c = absurd (not_blank q)
    over unfinished q not_blank c = absurd (let b : ⊥ = omega (arith, l.spent q, unfinished_costs m S (l.keeps.going q).topped) in b)
    over (found acts) q not_blank c =
        let p = l.keeps.plan acts q in
        let w : Solvable m S.bound = (acts, p.1, p.0.solves) in
        (λ _. w, λ _. (acts, q), λ nothing. absurd (nothing w))
    over none q not_blank c = (λ x. let y = x.1 in never cc, λ w. absurd (none_left q w), λ _. q)

pub every_run_is_lawful : EveryRunIsLawful
every_run_is_lawful S P m h n r = lawful_now S P m h n (good r)

plan_fits : (S : Machine) (P : Pairs) (m : Meaning) (h : ℕ → ℕ → Bool) (n : ℕ) → Good S P m h n → HasRoomFor S.stage S.bound
plan_fits S P m h n (idle b) = λ acts e. never cc
plan_fits S P m h n (live l) = λ acts e. (l.keeps.plan acts e).1

-- after every run a plan that stands is within the bound
pub every_plan_fits : (S : Machine) (P : Pairs) (m : Meaning) (h : ℕ → ℕ → Bool) (n : ℕ) → Run S P m h n → HasRoomFor S.stage S.bound
every_plan_fits S P m h n r = plan_fits S P m h n (good r)

pub what_plan_writes : WhatPlanWritesIsAShortestPlan
what_plan_writes S P m h n r b b' k w =
    let same : take k b' ≡ w.plan = rw (w.written, w.long) (take-append_seam w.plan (drop (length w.plan) b)) in
    subst (λ (x : List ℕ). Shortest m x) (sym same) ((every_run_is_lawful S P m h n r).shortest w.plan w.stands)
