-- The actions of a state tried in turn: what was tried below an action reaches nothing, and what it cost adds up.
use Rattle.std.proofs.Common.{◌≡◌, ℕ, suc, ◌+◌, ◌-◌, ◌<◌, ◌≤◌, Bool, true, false, cond, List, [], ◌∷◌, length, Some, None, Ok, Err, Option, Decides, refl, ap, ◌∙◌, inl, inr, add-one, arith, below_more}
use Rattle.std.proofs.lemmas.Bool.{both_ways, cases_lt}
use Rattle.std.proofs.lemmas.Bool.Decides.{not_from_Decides}
use Rattle.std.specs.Option.{SomeIff}
use Rattle.tasks.specs.Meaning.{Meaning, Lawful}
use Rattle.tasks.specs.States.{Applies, GoalsHold, Reaches, after}
use Rattle.exhaustive.specs.Sequences.{applicable, sequences, sum}
use Rattle.exhaustive.specs.declared.budget.OutOfBudget.{OutOfBudget}
use Rattle.exhaustive.specs.Tried.{NoneReaches, TriedAll}
use Rattle.exhaustive.proofs.Adding.{sum_part}

-- the sequences that begin with an action, where n more follow
abbrev pub branch : Meaning → ℕ → ℕ → ℕ → ℕ
branch m s n a = cond (applicable m s a) (sequences m (after m s a) n) 0

-- the actions below a were tried, each with n more after it
pub record Passed (m : Meaning) (s n budget left a : ℕ) : Type 0 where
  pub cost : budget ≡ left + sum (branch m s n) a
  pub none : (k : ℕ) → k < a → (rest : List ℕ) → length rest ≡ n → Applies m s k → Reaches m (after m s k) rest → ⊥

-- an action that does not apply costs nothing
pub not_applying : (m : Meaning) (s n budget left a : ℕ) → applicable m s a ≡ false → (Applies m s a → ⊥) → Passed m s n budget left a → Passed m s n budget left (a + 1)
not_applying m s n budget left a e never p =
    let nothing : branch m s n a ≡ 0 = ap (λ b. cond b (sequences m (after m s a) n) 0) e in
    record {
      cost = p.cost ∙ simp (add-one) (let x : sum (branch m s n) (suc a) ≡ sum (branch m s n) a + branch m s n a = refl in omega arith);
      none = below_more _ _ p.none (λ rest h applies. absurd (never applies));
    }

-- an action after which nothing reaches the goals costs its sequences
pub missing_here : (m : Meaning) (s n budget left less a : ℕ) → applicable m s a ≡ true → left ≡ less + sequences m (after m s a) n → NoneReaches m (after m s a) n
    → Passed m s n budget left a → Passed m s n budget less (a + 1)
missing_here m s n budget left less a e paid nothing p =
    let here : branch m s n a ≡ sequences m (after m s a) n = ap (λ b. cond b (sequences m (after m s a) n) 0) e in
    record {
      cost = p.cost ∙ simp (add-one) (let x : sum (branch m s n) (suc a) ≡ sum (branch m s n) a + branch m s n a = refl in omega arith);
      none = below_more _ _ p.none (λ rest h applies. nothing rest h);
    }

-- all actions were tried
pub none_reaches : (m : Meaning) → Lawful m → (s n budget left : ℕ) → Passed m s n budget left m.actions → NoneReaches m s (suc n)
none_reaches m law s n budget left p [] h reaches = absurd (omega arith)
none_reaches m law s n budget left p (a ∷ rest) h reaches = elim (cases_lt a m.actions) [
  | inl below ↦ p.none a below rest (omega arith) reaches.0 reaches.1
  | inr past ↦ both_ways (m.usable a) (law.usable_past a past) reaches.0.usable
]

pub all_paid : (m : Meaning) (s n budget left : ℕ) → Passed m s n budget left m.actions → budget ≡ left + sequences m s (suc n)
unfolding sequences
all_paid m s n budget left p = p.cost

-- a budget that does not suffice after an action does not suffice before it
pub too_many : (m : Meaning) (s n budget left a : ℕ) → applicable m s a ≡ true → a < m.actions → left < sequences m (after m s a) n
    → Passed m s n budget left a → budget < sequences m s (suc n)
unfolding sequences
too_many m s n budget left a e below short p =
    let here : branch m s n a ≡ sequences m (after m s a) n = ap (λ b. cond b (sequences m (after m s a) n) 0) e in
    omega (arith, p.cost, sum_part (branch m s n) a m.actions below)

-- one is taken from a budget, if there is one left
pub checked_some : (budget left : ℕ) (o : Option ℕ) → SomeIff o (1 ≤ budget) (budget - 1) → o ≡ Some left → budget ≡ left + 1
checked_some budget left (Some n) d e = let same : n ≡ left = cc in omega (arith, d, same)
checked_some budget left None d e = absurd (grind arith)

pub checked_none : (budget : ℕ) (o : Option ℕ) → SomeIff o (1 ≤ budget) (budget - 1) → o ≡ None → budget ≡ 0
checked_none budget (Some n) d e = absurd (grind arith)
checked_none budget None d e = omega (arith, d)

-- the empty sequence costs one
pub empty_tried : (m : Meaning) (s budget left : ℕ) (p : List ℕ) → length p ≡ 0 → budget ≡ left + 1 → (b : Bool) → Decides b (GoalsHold m s) → TriedAll m s budget left p p (Ok b)
unfolding sequences
empty_tried m s budget left [] n paid true d = d.0 refl
empty_tried m s budget left [] n paid false d = (none_empty, paid, refl)
  where
    none_empty : NoneReaches m s 0
    none_empty [] h reaches = not_from_Decides _ d refl reaches
    none_empty (a ∷ rest) h reaches = absurd (omega arith)
empty_tried m s budget left (x ∷ xs) n paid b d = absurd (omega arith)

pub empty_spent : (m : Meaning) (s left : ℕ) (p : List ℕ) (spent : OutOfBudget) → length p ≡ 0 → TriedAll m s 0 left p p (Err spent)
unfolding sequences
empty_spent m s left [] spent n = (omega arith, refl)
empty_spent m s left (x ∷ xs) spent n = absurd (omega arith)
