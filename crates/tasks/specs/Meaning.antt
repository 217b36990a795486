-- What a task means, and the limits and ranges that every meaning keeps.
use Rattle.std.specs.Prelude.{◌≡◌, ℕ, ◌<◌, ◌≤◌, Bool, true, false, ℤ, pos, negsuc, neg_ℤ, unsigned_abs}

-- Facts and actions are numbered from 0. Of needs, makes, start and goal, 1 says true, -1 says false and 0 says nothing.
pub record Meaning : Type 0 where
  pub facts : ℕ
  pub actions : ℕ
  pub usable : ℕ → Bool
  pub needs : ℕ → ℕ → ℤ
  pub makes : ℕ → ℕ → ℤ
  pub start : ℕ → ℤ
  pub goal : ℕ → ℤ

-- A literal is a fact with a sign, true or false. The number that a task has for the sign:
abbrev pub value : Bool → ℤ
value true = pos 1
value false = negsuc 0

-- The opposite of a literal is its negation.
abbrev pub opposite : ℤ → ℤ
opposite z = neg_ℤ z

-- 1, 0 or -1
abbrev pub Three : ℤ → Type 0
Three z = unsigned_abs z ≤ 1

-- 1 or -1
abbrev pub Two : ℤ → Type 0
Two z = unsigned_abs z ≡ 1

-- 1 to 64 facts, at most 128 actions, every answer in its range, and 0 or "not usable" past the facts and the actions.
pub record Lawful (m : Meaning) : Type 0 where
  pub facts_some : 1 ≤ m.facts
  pub facts_most : m.facts ≤ 64
  pub actions_most : m.actions ≤ 128
  pub needs_three : (a f : ℕ) → Three (m.needs a f)
  pub makes_three : (a f : ℕ) → Three (m.makes a f)
  pub goal_three : (f : ℕ) → Three (m.goal f)
  pub start_two : (f : ℕ) → f < m.facts → Two (m.start f)
  pub usable_past : (a : ℕ) → m.actions ≤ a → m.usable a ≡ false
  pub needs_past_action : (a f : ℕ) → m.actions ≤ a → m.needs a f ≡ pos 0
  pub needs_past_fact : (a f : ℕ) → m.facts ≤ f → m.needs a f ≡ pos 0
  pub makes_past_action : (a f : ℕ) → m.actions ≤ a → m.makes a f ≡ pos 0
  pub makes_past_fact : (a f : ℕ) → m.facts ≤ f → m.makes a f ≡ pos 0
  pub start_past : (f : ℕ) → m.facts ≤ f → m.start f ≡ pos 0
  pub goal_past : (f : ℕ) → m.facts ≤ f → m.goal f ≡ pos 0

-- The answers of one task as a meaning.
abbrev pub bundle : {S : Type 0} → (S → ℕ) → (S → ℕ) → (S → ℕ → Bool) → (S → ℕ → ℕ → ℤ) → (S → ℕ → ℕ → ℤ) → (S → ℕ → ℤ) → (S → ℕ → ℤ) → S → Meaning
bundle facts actions usable needs makes start goal t = record {
  facts = facts t;
  actions = actions t;
  usable = usable t;
  needs = needs t;
  makes = makes t;
  start = start t;
  goal = goal t;
}
