-- One step, from the fate of the newest part: it is a step of the machine, and what a search keeps up stays so.
use Rattle.std.proofs.Common.{◌≡◌, ℕ, ◌≤◌, Bool, List, [], ◌∷◌, length, Option, sym, ap, ◌∙◌, subst, arith}
use mathlib.Core.HLevel.{Unit-prop}
use mathlib.Core.Logic.{∥∥₁_elim, ∥∥₁_map}
use native.Mathlib.Bridge.{le_prop}
use Rattle.tasks.specs.Meaning.{Meaning}
use Rattle.filter.specs.Structures.{Structure}
use Rattle.filter.specs.Filtering.{Filtered}
use Rattle.filter.specs.Filtering.Filtered.{kept, wiped}
use Rattle.search.specs.declared.fate.Fate.{Fate}
use Rattle.search.specs.declared.stack.TheConstants.{MOST_ENTRIES}
use Rattle.search.specs.Machines.{Entry, Machine, Stage}
use Rattle.search.specs.Machines.Entry.{part, pair}
use Rattle.search.specs.Machines.Stage.{blank, unfinished}
use Rattle.search.specs.Depths.{Shallow, Topped}
use Rattle.search.specs.Fates.{Decided, StepWithin, effect}
use Rattle.search.specs.Steps.{Step, next}
use Rattle.search.specs.Stored.{KeptUp}
use Rattle.search.proofs.Applying.{comes_within}
use Rattle.search.proofs.Deepening.{short, stays_shallow}
use Rattle.search.proofs.Topping.{stays_topped, stays_within}

filtered_round : (m : Meaning) (p q : Structure) (stands : Bool) → Filtered m p stands q → q.round ≡ p.round
filtered_round m p q stands (kept e l) = l.below.round
filtered_round m p q stands (wiped e n b) = ap (λ (s : Structure). s.round) b

topped_prop : (es : List Entry) (x y : Topped es) → x ≡ y
topped_prop [] x y = absurd x
topped_prop (part p from ∷ es) x y = Unit-prop x y
topped_prop (pair s n ∷ es) x y = absurd x

-- while a search goes on a part is on top
pub on_top : (stage : Stage) (k : ℕ) (es : List Entry) → ∥ KeptUp stage k es ∥₁ → stage ≡ unfinished → Topped es
on_top stage k es up going = ∥∥₁_elim up (topped_prop es) (λ u. u.topped going)

-- its round is the search's
top_round : (stage : Stage) (k : ℕ) (es : List Entry) → ∥ KeptUp stage k es ∥₁ → (p : Structure) (from : Option ℕ) (rest : List Entry) → es ≡ part p from ∷ rest → p.round ≡ k
top_round stage k es up p from rest is =
    let low : p.round ≤ k = ∥∥₁_elim up le_prop (λ u. let e = round u in omega arith) in
    let high : k ≤ p.round = ∥∥₁_elim up le_prop (λ u. let e = round u in omega arith) in
    omega arith
  where
    round : KeptUp stage k es → p.round ≡ k
    round u = (subst (λ (x : List Entry). Shallow 128 k x) is u.shallow).0

-- What carrying out a fate comes to: a step of the machine, which splits no step past the round, and after which as much is kept up and
-- no more is open than there is room for.
pub record Outcome (m : Meaning) (recall hopeless : ℕ → ℕ → Bool) (S : Machine) (from : Option ℕ) (rest : List Entry) (fate : Fate) : Type 0 where
  pub step : Step m recall hopeless S (effect m fate S.bound S.round from rest)
  pub within : StepWithin fate S.round
  pub kept : ∥ KeptUp (effect m fate S.bound S.round from rest).machine.stage (effect m fate S.bound S.round from rest).machine.round (effect m fate S.bound S.round from rest).machine.entries ∥₁
  pub room : length (effect m fate S.bound S.round from rest).machine.entries ≤ MOST_ENTRIES

pub outcome : (m : Meaning) (recall hopeless : ℕ → ℕ → Bool) (S : Machine) (p : Structure) (from : Option ℕ) (rest : List Entry) (fate : Fate)
    → S.stage ≡ unfinished → S.entries ≡ part p from ∷ rest → Decided m recall hopeless p fate → m.actions ≤ 128
    → ∥ KeptUp S.stage S.round S.entries ∥₁ → S.round ≤ S.bound → S.bound ≤ 30 → Outcome m recall hopeless S from rest fate
outcome m recall hopeless S p from rest fate going is d few up within small =
    let same : d.result.round ≡ S.round = filtered_round m p d.result d.stands d.filtered ∙ top_round S.stage S.round S.entries up p from rest is in
    let made = effect m fate S.bound S.round from rest in
    let step : Step m recall hopeless S made = record {
      going = going;
      top = p;
      from = from;
      rest = rest;
      entries = is;
      stands = d.stands;
      result = d.result;
      filtered = d.filtered;
      does = sym (subst (λ (k : ℕ). next m recall hopeless S.bound k from d.result rest d.stands ≡ effect m fate S.bound k from rest) same (d.comes S.bound from rest));
    } in
    let kept : ∥ KeptUp made.machine.stage made.machine.round made.machine.entries ∥₁ = ∥∥₁_map up (λ u. record {
      shallow = stays_shallow 128 m few recall hopeless S made step u.shallow;
      topped = stays_topped m recall hopeless S made step;
    }) in
    let inside = (stays_within m recall hopeless S made step).1 within in
    record {
      step = step;
      within = subst (λ (k : ℕ). StepWithin fate k) same (comes_within m recall hopeless d.result d.stands fate d.comes);
      kept = kept;
      room = ∥∥₁_elim kept le_prop (λ u. let s = short 128 made.machine.round made.machine.entries u.shallow in omega arith);
    }

-- a blank search keeps up what a search keeps up
pub nothing_open : KeptUp blank 0 []
nothing_open = record { shallow = tt; topped = λ e. absurd (let z : ◌≡◌ {A = ℕ} 0 1 = cc in omega arith) }
