-- A list of calls on a blank search is a run, and what then stands keeps the law in words of the calls and the answers.
use Rattle.std.proofs.Common.{◌≡◌, ℕ, ◌+◌, ◌<◌, ◌≤◌, Bool, true, false, List, [], ◌∷◌, ◌++◌, length, get_or, take, Ok, Err, Result, sym, refl, ◌∙◌, subst, arith, take_all}
use Rattle.std.proofs.lemmas.List.{length_push, take_more}
use Rattle.tasks.specs.Meaning.{Lawful, Meaning}
use Rattle.filter.proofs.Values.{never}
use Rattle.estimators.specs.Sound.{Sound}
use Rattle.estimators.specs.declared.estimator.Estimator as estimator
use Rattle.memories.specs.Pairs.{Emptied, Kept, recalls}
use Rattle.memories.specs.declared.memory.Memory as memory
use Rattle.search.specs.declared.answer.Answer.{Answer}
use Rattle.search.specs.declared.answer.Answer.TheVariants.{Done, Made}
use Rattle.search.specs.declared.call.Call.{Call}
use Rattle.search.specs.declared.call.Call.TheVariants as call
use Rattle.search.specs.declared.refusal.Refusal.{Refusal}
use Rattle.search.specs.Calls.{Advancing, Lifting, Opening}
use Rattle.search.specs.Machines.{Machine}
use Rattle.search.specs.Machines.Stage.{blank}
use Rattle.search.specs.Played.{Called, Calls, Tally, counting, tally, told, untouched}
use Rattle.search.specs.Played.Calls.{no_call, one_call}
use Rattle.search.specs.Runs.{Run}
use Rattle.search.specs.Runs.Run.{advances, begins, lifts, opens}
use Rattle.search.proofs.Forgetting.{forget_advancing, forget_opening}
use Rattle.search.proofs.Holding.{Begun, put_up_begun, steps_hold}
use Rattle.search.proofs.Running.{blank_refuses, lift_allowed}

-- the loop over the calls

module _ {X Y : Type 0} (M : memory.Ghosts X) (E : estimator.Ghosts Y) (m : Meaning) (w : Y) where
  pub calls_begin : (answers : List (Result Answer Refusal)) (S : Machine) (x : X) → answers ≡ [] → Calls M E m w [] answers S x S x
  calls_begin answers S x e = subst (λ (rs : List (Result Answer Refusal)). Calls M E m w [] rs S x S x) (sym e) no_call

  pub calls_more : (calls : List Call) (i : ℕ) (d : Call) (answers answers' : List (Result Answer Refusal)) (a : Result Answer Refusal) (S S₁ S₂ : Machine) (x x₁ x₂ : X) → i < length calls → answers' ≡ answers ++ a ∷ []
      → Calls M E m w (take i calls) answers S x S₁ x₁ → Called M E m w (get_or calls i d) a S₁ x₁ S₂ x₂ → Calls M E m w (take (i + 1) calls) answers' S x S₂ x₂
  calls_more calls i d answers answers' a S S₁ S₂ x x₁ x₂ l e before call =
      subst (λ (cs : List Call). Calls M E m w cs answers' S x S₂ x₂) (sym (take_more calls i d l))
      (subst (λ (rs : List (Result Answer Refusal)). Calls M E m w (take i calls ++ get_or calls i d ∷ []) rs S x S₂ x₂) (sym e) (one_call (get_or calls i d) a before call))

  pub calls_all : (calls : List Call) (i : ℕ) (answers : List (Result Answer Refusal)) (S S₁ : Machine) (x x₁ : X) → length calls ≤ i
      → Calls M E m w (take i calls) answers S x S₁ x₁ → Calls M E m w calls answers S x S₁ x₁
  calls_all calls i answers S S₁ x x₁ l all = subst (λ (cs : List Call). Calls M E m w cs answers S x S₁ x₁) (take_all i calls l) all

-- what a tally says of the search
pub record Fits (t : Tally) (S : Machine) : Type 0 where
  pub bound : t.opened ≡ true → S.bound ≡ t.bound
  pub begun : t.opened ≡ true → Begun S.stage
  pub fresh : t.opened ≡ false → S.stage ≡ blank

tally_push : (t : Tally) (calls : List Call) (answers : List (Result Answer Refusal)) (c : Call) (a : Result Answer Refusal) → length answers ≡ length calls → tally t (calls ++ c ∷ []) (answers ++ a ∷ []) ≡ counting (tally t calls answers) c a
tally_push t [] [] c a e = refl
tally_push t [] (b ∷ answers) c a e = absurd (omega (arith, e))
tally_push t (d ∷ calls) [] c a e = absurd (omega (arith, e))
tally_push t (d ∷ calls) (b ∷ answers) c a e = tally_push (counting t d b) calls answers c a (omega (arith, e))

pub begun_or : (t : Tally) (S : Machine) → Fits t S → (S.stage ≡ blank → ⊥) → (t.opened ≡ true) × Begun S.stage
begun_or t S f n = go t.opened refl
  where
    go : (b : Bool) → t.opened ≡ b → (t.opened ≡ true) × Begun S.stage
    go true e = (e, f.begun e)
    go false e = absurd (n (f.fresh e))

module _ {X Y : Type 0} (M : memory.Ghosts X) (kept : (x : X) (s n : ℕ) (y : X) → M.keeps x s n y → Kept (M.has x) s n (M.has y)) (emptied : (x y : X) → M.empties x y → Emptied (M.has y))
    (E : estimator.Ghosts Y) (m : Meaning) (lawful : Lawful m) (w : Y) (sound : Sound m (E.hopeless w m)) where
  -- a tally and a run up to it
  pub record Comes (t : Tally) (S : Machine) (x : X) : Type 0 where
    pub fits : Fits t S
    pub run : Run S (M.has x) m (E.hopeless w m) t.amount

  unchanged : (t : Tally) (S S' : Machine) (x x' : X) → S' ≡ S → x' ≡ x → Comes t S x → Comes t S' x'
  unchanged t S S' x x' e d c = subst (λ (U : Machine). Comes t U x') (sym e) (subst (λ (y : X). Comes t S y) (sym d) c)

  answered : (t : Tally) (c : Call) (a b : Result Answer Refusal) (S : Machine) (x : X) → a ≡ b → Comes (counting t c b) S x → Comes (counting t c a) S x
  answered t c a b S x e k = subst (λ (d : Result Answer Refusal). Comes (counting t c d) S x) (sym e) k

  opening : (t : Tally) (K : ℕ) (S S' : Machine) (x x' : X) (r : Result (Unit {0}) Refusal) → Opening X M.empties m K S x S' x' r → Comes t S x → Comes (counting t (call.Open K) (told (λ _. Done) r)) S' x'
  opening t K S S' x x' (Ok u) o k =
      let up = subst (λ (U : Machine). (U.bound ≡ K) × Begun U.stage) (sym o.search) (put_up_begun m K 0) in
      record {
        fits = record { bound = λ _. up.0; begun = λ _. up.1; fresh = λ e. never cc };
        run = opens k.run K (M.has x) u lawful sound (forget_opening X M.has M.empties emptied m K S x S' x' (Ok u) o);
      }
  opening t K S S' x x' (Err e) o k = unchanged t S S' x x' o.search_same o.memory_same k

  advancing : (t : Tally) (n : ℕ) (S S' : Machine) (x x' : X) (r : Result ℕ Refusal) → Advancing X (λ y. recalls (M.has y)) M.keeps m (E.hopeless w m) n S x S' x' r → Comes t S x → Comes (counting t (call.Advance n) (told Made r)) S' x'
  advancing t n S S' x x' (Ok j) o k =
      let was = begun_or t S k.fits (λ e. blank_refuses S.stage S.bound n o.allowed e) in
      let held = steps_hold X (λ y. recalls (M.has y)) M.keeps m (E.hopeless w m) o.steps was.1 in
      record {
        fits = record { bound = λ e. held.0 ∙ k.fits.bound e; begun = λ _. held.1; fresh = λ e. let y = was.0 in never cc };
        run = advances k.run n (Ok j) (forget_advancing X M.has (λ y. recalls (M.has y)) M.keeps (λ y s i. refl) kept m (E.hopeless w m) n S x S' x' (Ok j) o);
      }
  advancing t n S S' x x' (Err e) o k = unchanged t S S' x x' o.search_same o.memory_same k

  lifting : (t : Tally) (K : ℕ) (S S' : Machine) (x x' : X) (r : Result (Unit {0}) Refusal) → Lifting m K S S' r → x' ≡ x → Comes t S x → Comes (counting t (call.Lift K) (told (λ _. Done) r)) S' x'
  lifting t K S S' x x' (Ok u) o d k =
      let was = lift_allowed S.stage S.bound K o.allowed in
      let stood = begun_or t S k.fits (λ e. let n = was.0 in never cc) in
      let up = subst (λ (U : Machine). (U.bound ≡ K) × Begun U.stage) (sym o.search) (put_up_begun m K (S.bound + 1)) in
      subst (λ (y : X). Comes (counting t (call.Lift K) (told (λ _. Done) (Ok u))) S' y) (sym d) (record {
        fits = record { bound = λ _. up.0; begun = λ _. up.1; fresh = λ e. let y = stood.0 in never cc };
        run = lifts k.run K (Ok u) o;
      })
  lifting t K S S' x x' (Err e) o d k = unchanged t S S' x x' o.1 d k

  called : (t : Tally) (c : Call) (a : Result Answer Refusal) (S S' : Machine) (x x' : X) → Called M E m w c a S x S' x' → Comes t S x → Comes (counting t c a) S' x'
  called t (call.Open K) a S S' x x' o k = answered t (call.Open K) a (told (λ _. Done) o.0) S' x' o.1 (opening t K S S' x x' o.0 o.2 k)
  called t (call.Advance n) a S S' x x' o k = answered t (call.Advance n) a (told Made o.0) S' x' o.1 (advancing t n S S' x x' o.0 o.2 k)
  called t (call.Lift K) a S S' x x' o k = answered t (call.Lift K) a (told (λ _. Done) o.0) S' x' o.1 (lifting t K S S' x x' o.0 o.2 o.3 k)
  called t call.Verdict a S S' x x' o k = answered t call.Verdict a _ S' x' o.0 (unchanged t S S' x x' o.1 o.2 k)
  called t (call.Plan n) (Ok a) S S' x x' o k = unchanged t S S' x x' o.6 o.7 k
  called t (call.Plan n) (Err e) S S' x x' o k = unchanged t S S' x x' o.6 o.7 k

  pub all_called : {calls : List Call} {answers : List (Result Answer Refusal)} {S : Machine} {x : X} {S' : Machine} {x' : X} → Calls M E m w calls answers S x S' x' → S.stage ≡ blank
      → (length answers ≡ length calls) × Comes (tally untouched calls answers) S' x'
  all_called no_call e = (refl, record { fits = record { bound = λ b. never cc; begun = λ b. never cc; fresh = λ _. e }; run = begins e })
  all_called (one_call {calls} {answers} {S₁ = S₁} {x₁} c a {S₂} {x₂} before call) e =
      let was = all_called before e in (
        omega (arith, was.0, length_push answers a, length_push calls c),
        subst (λ (t : Tally). Comes t S₂ x₂) (sym (tally_push untouched calls answers c a was.0)) (called (tally untouched calls answers) c a S₁ S₂ x₁ x₂ call was.1),
      )
