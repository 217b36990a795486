-- Tables within their limits and ranges mean a lawful task.
use Rattle.std.proofs.Common.{◌≡◌, ℕ, zero, suc, ◌+◌, ◌*◌, ◌<◌, ◌≤◌, false, ltb, List, get_or, ℤ, pos, negsuc, refl, zero-add, arith, lit≤}
use Rattle.std.proofs.lemmas.Nat.{mul-add-lt}
use Rattle.std.proofs.lemmas.Bool.{cond_both, cond-true, cond-false, ltb-true, le-ltb, lt-ltb}
use Rattle.tasks.specs.Meaning.{Lawful, Three, Two, value}
use Rattle.tasks.specs.States.{put}
use Rattle.tasks.specs.Tables.{Limits, Ranges, Threes, Twos, from, one, table_task, two}

-- a number that is 1 or -1 is that of the sign that it puts
pub two_put : (z : ℤ) → Two z → value (put z false) ≡ z
two_put (pos zero) h = absurd (omega arith)
two_put (pos (suc zero)) h = refl
two_put (pos (suc (suc n))) h = absurd (omega arith)
two_put (negsuc zero) h = refl
two_put (negsuc (suc n)) h = absurd (omega arith)

from_past : (at facts : ℕ) (cells : List ℤ) (f : ℕ) → facts ≤ f → from at facts cells f ≡ pos 0
from_past at facts cells f h = cond-false (ltb f facts) (get_or cells (at + f) (pos 0)) (pos 0) (le-ltb f facts h)

from_three : (at facts : ℕ) (cells : List ℤ) → ((f : ℕ) → f < facts → Three (get_or cells (at + f) (pos 0))) → (f : ℕ) → Three (from at facts cells f)
from_three at facts cells h f =
    cond_both (ltb f facts) (get_or cells (at + f) (pos 0)) (pos 0) (λ z. Three z) (λ e. h f (ltb-true f facts e)) (λ _. lit≤ tt)

module _ (facts actions : ℕ) (cells : List ℤ) where
  two_three : Threes (actions * facts) cells → (a f : ℕ) → Three (two facts actions cells a f)
  two_three h a f =
      cond_both (ltb a actions) (from (a * facts) facts cells f) (pos 0) (λ z. Three z)
      (λ e. from_three (a * facts) facts cells (λ g l. h (a * facts + g) (omega (arith, mul-add-lt a facts g actions (ltb-true a actions e) l))) f)
      (λ _. lit≤ tt)

  two_past_action : (a f : ℕ) → actions ≤ a → two facts actions cells a f ≡ pos 0
  two_past_action a f h = cond-false (ltb a actions) (from (a * facts) facts cells f) (pos 0) (le-ltb a actions h)

  two_past_fact : (a f : ℕ) → facts ≤ f → two facts actions cells a f ≡ pos 0
  two_past_fact a f h =
      cond_both (ltb a actions) (from (a * facts) facts cells f) (pos 0) (λ z. z ≡ pos 0) (λ _. from_past (a * facts) facts cells f h) (λ _. refl)

module _ (facts : ℕ) (cells : List ℤ) where
  one_three : Threes facts cells → (f : ℕ) → Three (one facts cells f)
  one_three h = from_three 0 facts cells (λ f l. rw (zero-add f) (h f l))

  pub one_two : Twos facts cells → (f : ℕ) → f < facts → Two (one facts cells f)
  one_two h f below =
      rw (cond-true (ltb f facts) (get_or cells (0 + f) (pos 0)) (pos 0) (lt-ltb f facts below)) (rw (zero-add f) (h f below))

pub tables_lawful : (facts actions : ℕ) (needs makes start goal : List ℤ) → Limits facts actions
    → Ranges facts actions needs makes start goal → Lawful (table_task facts actions needs makes start goal)
tables_lawful facts actions needs makes start goal limits ranges = record {
  facts_some = limits.0;
  facts_most = limits.1;
  actions_most = limits.2;
  needs_three = two_three facts actions needs ranges.0;
  makes_three = two_three facts actions makes ranges.1;
  goal_three = one_three facts goal ranges.3;
  start_two = one_two facts start ranges.2;
  usable_past = λ a h. le-ltb a actions h;
  needs_past_action = two_past_action facts actions needs;
  needs_past_fact = two_past_fact facts actions needs;
  makes_past_action = two_past_action facts actions makes;
  makes_past_fact = two_past_fact facts actions makes;
  start_past = from_past 0 facts start;
  goal_past = from_past 0 facts goal;
}
