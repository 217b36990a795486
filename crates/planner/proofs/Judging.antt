-- From what the calls on a search promise to what is judged of a task.
use Rattle.std.proofs.Common.{◌≡◌, ℕ, ◌+◌, ◌≤◌, Bool, List, length, Some, IsOk, Ok, Err, Result, sym, refl, ap, ◌∙◌, subst, arith}
use Rattle.filter.proofs.Values.{never}
use Rattle.tasks.specs.Meaning.{Meaning}
use Rattle.tasks.specs.States.{Shortest, Solvable}
use Rattle.memories.specs.Pairs.{Pairs}
use Rattle.estimators.specs.Sound.{Sound}
use Rattle.search.specs.declared.call.Call.TheVariants as call
use Rattle.search.specs.declared.refusal.Refusal.{Refusal}
use Rattle.search.specs.declared.verdict.Verdict.{Verdict}
use Rattle.search.specs.Ceiling.{ceiling}
use Rattle.search.specs.Machines.{Machine, Stage}
use Rattle.search.specs.Machines.Stage.{blank, unfinished, found, none}
use Rattle.search.specs.Calls.{Advancing, Opening, refusal}
use Rattle.search.specs.Runs.{HasRoomFor, OpensARun, Run, TheLaw, counted, verdict_of}
use Rattle.search.specs.Runs.Run.{begins}
use Rattle.search.specs.Plays.{plan_standing}
use Rattle.search.proofs.Holding.{Begun, not_blank, put_up_begun, steps_hold}
use Rattle.search.proofs.Standing.{not_refused}
use Rattle.planner.specs.Planned.{Judged}

-- The search was opened with the bound K, and its run came so far.
pub record Driven (K : ℕ) (S : Machine) (P : Pairs) (m : Meaning) (h : ℕ → ℕ → Bool) (n : ℕ) : Type 0 where
  pub bound : S.bound ≡ K
  pub begun : Begun S.stage
  pub run : Run S P m h n

pub opened_right : (X : Type 0) (empties : X → X → Type 0) (m : Meaning) (h : ℕ → ℕ → Bool) (K : ℕ) (S S' : Machine) (x x' : X) (P' : Pairs) (r : Result (Unit {0}) Refusal)
    → S.stage ≡ blank → K ≤ 30 → Opening X empties m K S x S' x' r → OpensARun S S' P' m r → Sound m h → Driven K S' P' m h 0
opened_right X empties m h K S S' x x' P' (Ok u) e le does run sound =
    let up = put_up_begun m K 0 in
    record {
      bound = ap (λ (T : Machine). T.bound) does.search ∙ up.0;
      begun = subst (λ (T : Machine). Begun T.stage) (sym does.search) up.1;
      run = run P' m h 0 (begins e) h sound;
    }
opened_right X empties m h K S S' x x' P' (Err why) e le does run sound =
    absurd (not_refused 30 K _ why le (subst (λ (s : Stage). refusal s S.bound (call.Open K) ≡ Some why) e does.why))

-- the opening of a blank search up to at most 30 is never refused
pub opening_is_ok : (X : Type 0) (empties : X → X → Type 0) (m : Meaning) (K : ℕ) (S S' : Machine) (x x' : X) (r : Result (Unit {0}) Refusal)
    → S.stage ≡ blank → K ≤ 30 → Opening X empties m K S x S' x' r → IsOk r
opening_is_ok X empties m K S S' x x' (Ok u) e le does = refl
opening_is_ok X empties m K S S' x x' (Err why) e le does = absurd (not_refused 30 K _ why le (subst (λ (s : Stage). refusal s S.bound (call.Open K) ≡ Some why) e does.why))

-- a million steps are never refused of a search that was opened
accepted : (s : Stage) (bound : ℕ) (e : Refusal) → Begun s → refusal s bound (call.Advance 1000000) ≡ Some e → ⊥
accepted blank bound e b r = b
accepted unfinished bound e b r = never cc
accepted (found plan) bound e b r = never cc
accepted none bound e b r = never cc

pub advance_is_ok : (X : Type 0) (recall : X → ℕ → ℕ → Bool) (keeps : X → ℕ → ℕ → X → Type 0) (m : Meaning) (h : ℕ → ℕ → Bool) (S S' : Machine) (x x' : X) (r : Result ℕ Refusal)
    → Begun S.stage → Advancing X recall keeps m h 1000000 S x S' x' r → IsOk r
advance_is_ok X recall keeps m h S S' x x' (Ok made) begun does = refl
advance_is_ok X recall keeps m h S S' x x' (Err why) begun does = absurd (accepted S.stage S.bound why begun does.why)

pub driven_on : (X : Type 0) (recall : X → ℕ → ℕ → Bool) (keeps : X → ℕ → ℕ → X → Type 0) (m : Meaning) (h : ℕ → ℕ → Bool) (K n n' : ℕ) (S S' : Machine) (P P' : Pairs) (x x' : X) (r : Result ℕ Refusal)
    → Driven K S P m h n → Advancing X recall keeps m h 1000000 S x S' x' r → ((n : ℕ) → Run S P m h n → Run S' P' m h (n + counted 1000000 r)) → n + 1000000 ≡ n' → Driven K S' P' m h n'
driven_on X recall keeps m h K n n' S S' P P' x x' (Ok made) d does run e =
    let after = steps_hold X recall keeps m h does.steps d.begun in
    record { bound = after.0 ∙ d.bound; begun = after.1; run = subst (λ (k : ℕ). Run S' P' m h k) e (run n d.run) }
driven_on X recall keeps m h K n n' S S' P P' x x' (Err e) d does run same = absurd (accepted S.stage S.bound e d.begun does.why)

-- what is told after ten million steps is right
pub judged : (m : Meaning) (K : ℕ) (S : Machine) (P : Pairs) (h : ℕ → ℕ → Bool) (n : ℕ) (v : Verdict) (plan : List ℕ) → Driven K S P m h n → n ≡ 10000000
    → plan ≡ plan_standing S.stage → HasRoomFor S.stage S.bound → TheLaw S.stage S.bound m n → v ≡ verdict_of S.stage S.bound → Judged m K v plan
judged m K S P h n v plan driven all standing within law told = subst (λ (v : Verdict). Judged m K v plan) (sym told) (at S.stage refl)
  where
    not_Solvable : S.stage ≡ unfinished → ceiling m K ≤ 10000000 → ⊥
    not_Solvable e c =
        let enough : ceiling m K ≤ n = omega (arith, c, all) in
        let d = law.decided (not_blank S.stage driven.begun) (subst (λ (k : ℕ). ceiling m k ≤ n) (sym driven.bound) enough) in
        let unsolved : Solvable m S.bound → ⊥ = λ s. let st = d.1 s in differ_found st.0 (sym e ∙ st.1) in
        differ_none (sym e ∙ d.2 unsolved)
      where
        differ_found : (plan : List ℕ) → unfinished ≡ found plan → ⊥
        differ_found plan z = never cc

        differ_none : unfinished ≡ none → ⊥
        differ_none z = never cc

    at : (s : Stage) → S.stage ≡ s → Judged m K (verdict_of s S.bound) plan
    at blank e = not_blank S.stage driven.begun e
    at unfinished e = not_Solvable e
    at (found p) e =
        let same : plan ≡ p = standing ∙ ap plan_standing e in
        (omega (arith, within p e, driven.bound), ap length same, subst (λ (acts : List ℕ). Shortest m acts) (sym same) (law.shortest p e))
    at none e = (driven.bound, λ s. law.nothing e (subst (λ (k : ℕ). Solvable m k) (sym driven.bound) s))
