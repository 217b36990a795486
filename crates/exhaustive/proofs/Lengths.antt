-- Lengths tried in turn: where no sequence of any length below n reaches the goals, one of n actions that does is a shortest.
use Rattle.std.proofs.Common.{◌≡◌, ℕ, suc, ◌+◌, ◌<◌, ◌≤◌, List, length, sym, refl, ap, ◌∙◌, subst, inl, inr, arith}
use Rattle.std.proofs.lemmas.Bool.{cases_lt}
use Rattle.tasks.specs.Meaning.{Meaning}
use Rattle.tasks.specs.States.{Reaches, Solves, start_state}
use Rattle.exhaustive.specs.Sequences.{sequences, sequences_up_to, sum}
use Rattle.exhaustive.specs.Tried.{NoneReaches}
use Rattle.exhaustive.specs.Answered.{SpentOn}
use Rattle.exhaustive.proofs.Adding.{sum_part}

-- the lengths below n were tried
pub record Covered (m : Meaning) (budget left n : ℕ) : Type 0 where
  pub cost : budget ≡ left + sum (sequences m (start_state m)) n
  pub none : (k : ℕ) → k < n → NoneReaches m (start_state m) k

-- a solution is as long as the lengths that were tried, or longer
pub no_shorter : (m : Meaning) (budget left n : ℕ) → Covered m budget left n → (others : List ℕ) → Solves m others → n ≤ length others
no_shorter m budget left n p others solves = elim (cases_lt (length others) n) [
  | inl below ↦ absurd (p.none (length others) below others refl solves)
  | inr past ↦ past
]

pub up_to_spent : (m : Meaning) (budget left n k : ℕ) → left < sequences m (start_state m) n → n ≤ k → Covered m budget left n → budget < sequences_up_to m k
up_to_spent m budget left n k short h p =
    let part : sum (sequences m (start_state m)) (suc n) ≤ sum (sequences m (start_state m)) (suc k) = sum_part (sequences m (start_state m)) n (suc k) (omega arith) in
    omega (arith, p.cost)

pub is_spent : (m : Meaning) (budget left n bound : ℕ) → left < sequences m (start_state m) n → n ≤ bound → Covered m budget left n → SpentOn m bound budget
is_spent m budget left n bound short h p = record {
  bounded = up_to_spent m budget left n bound short h p;
  unsolved = λ k s. up_to_spent m budget left n k short (omega (arith, s.1, no_shorter m budget left n p s.0 s.2)) p;
}

pub same_number : (m : Meaning) (s r n k : ℕ) → s ≡ r → n ≡ k → sequences m s n ≡ sequences m r k
same_number m s r n k e f = ap (λ (x : ℕ). sequences m x n) e ∙ ap (sequences m r) f

pub none_moved : (m : Meaning) (s r n k : ℕ) → s ≡ r → n ≡ k → NoneReaches m s n → NoneReaches m r k
none_moved m s r n k e f none acts h reaches = none acts (h ∙ sym f) (subst (λ (x : ℕ). Reaches m x acts) (sym e) reaches)
