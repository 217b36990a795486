-- A layer over a lawful task is lawful: a ban changes only what is usable, a restart only the start.
use Rattle.std.specs.Prelude.{◌≡◌, ℕ, ◌<◌, Bool, true, false, cond, not, pos, nat_lt, refl}
use Rattle.std.proofs.Common.{⊎_elim}
use Rattle.std.proofs.lemmas.Bool.{and_left, both_ways, cases_lt, cond-true, cond-false, lt-ltb, le-ltb}
use Rattle.tasks.specs.Meaning.{Meaning, Lawful, Two, value}
use Rattle.tasks.specs.Bans.{banned}
use Rattle.tasks.specs.Restarts.{restarted}

-- a usable action is one of the task's
pub usable_below : (m : Meaning) → Lawful m → (a : ℕ) → m.usable a ≡ true → a < m.actions
usable_below m h a e =
    ⊎_elim (λ below. below) (λ past. absurd (both_ways (m.usable a) (h.usable_past a past) e)) (cases_lt a m.actions)

pub banned_lawful : (out : ℕ → Bool) (m : Meaning) → Lawful m → Lawful (banned out m)
banned_lawful out m h = record {
  facts_some = h.facts_some;
  facts_most = h.facts_most;
  actions_most = h.actions_most;
  needs_three = h.needs_three;
  makes_three = h.makes_three;
  goal_three = h.goal_three;
  start_two = h.start_two;
  usable_past = λ a past. and_left (m.usable a) (not (out a)) (h.usable_past a past);
  needs_past_action = h.needs_past_action;
  needs_past_fact = h.needs_past_fact;
  makes_past_action = h.makes_past_action;
  makes_past_fact = h.makes_past_fact;
  start_past = h.start_past;
  goal_past = h.goal_past;
}

value_two : (b : Bool) → Two (value b)
value_two true = refl
value_two false = refl

pub start_two : (facts : ℕ) (b : ℕ → Bool) (f : ℕ) → f < facts → Two (cond (nat_lt f facts) (value (b f)) (pos 0))
start_two facts b f below = rw (cond-true (nat_lt f facts) (value (b f)) (pos 0) (lt-ltb f facts below)) (value_two (b f))

pub restarted_lawful : (b : ℕ → Bool) (m : Meaning) → Lawful m → Lawful (restarted b m)
restarted_lawful b m h = record {
  facts_some = h.facts_some;
  facts_most = h.facts_most;
  actions_most = h.actions_most;
  needs_three = h.needs_three;
  makes_three = h.makes_three;
  goal_three = h.goal_three;
  start_two = start_two m.facts b;
  usable_past = h.usable_past;
  needs_past_action = h.needs_past_action;
  needs_past_fact = h.needs_past_fact;
  makes_past_action = h.makes_past_action;
  makes_past_fact = h.makes_past_fact;
  start_past = λ f past. cond-false (nat_lt f m.facts) (value (b f)) (pos 0) (le-ltb f m.facts past);
  goal_past = h.goal_past;
}
