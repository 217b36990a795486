-- Masks that describe a lawful task mean that task, and keep all that masks keep.
use Rattle.std.proofs.Common.{◌≡◌, ℕ, zero, suc, ◌<◌, ◌≤◌, true, false, cond, ltb, ◌⊎◌, List, length, get_or, ℤ, pos, negsuc, sym, refl, ap, ◌∙◌, ap₂, inl, inr, arith}
use Rattle.std.proofs.lemmas.Bool.{cases_Bool, cases_lt, cond-true, cond-false, false≢true, le-ltb, lt-ltb}
use Rattle.std.proofs.lemmas.List.{get_or_past}
use Rattle.sets.proofs.BitLaws.{bit_zero}
use Rattle.sets.specs.Bits.{bit}
use Rattle.sets.specs.Sets.{ActionSet, among, has, member}
use Rattle.sets.specs.Signs.{says}
use Rattle.sets.specs.declared.literals.Literals.{Literals}
use Rattle.tasks.specs.declared.row.Row.{Row}
use Rattle.tasks.specs.Masks.{Own, Removes, idle, makes_at, needs_at, row_at, set_at}
use Rattle.tasks.specs.Meaning.{Meaning, Lawful, Three, value}
use Rattle.tasks.specs.Rows.{Names, Single, Under, cell, starts}
use Rattle.tasks.specs.Layers.{usable_below}
use Rattle.tasks.specs.States.{put, start_state}
use Rattle.tasks.specs.Tabling.{two_put}
use Rattle.tasks.proofs.Packing.{bit_packed}
use Rattle.tasks.proofs.Rowing.{NamesRow, names_single, names_under, rows_named}

-- meanings that answer alike are one
pub one_meaning : (m n : Meaning) → m.facts ≡ n.facts → m.actions ≡ n.actions → ((a : ℕ) → m.usable a ≡ n.usable a)
    → ((a f : ℕ) → m.needs a f ≡ n.needs a f) → ((a f : ℕ) → m.makes a f ≡ n.makes a f)
    → ((f : ℕ) → m.start f ≡ n.start f) → ((f : ℕ) → m.goal f ≡ n.goal f) → m ≡ n
one_meaning m n facts actions usable needs makes start goal =
    λ i. record { facts = facts i; actions = actions i; usable = λ a. usable a i; needs = λ a f. needs a f i; makes = λ a f. makes a f i; start = λ f. start f i; goal = λ f. goal f i }

number_back : (z : ℤ) → Three z → cond (says z true) (pos 1) (cond (says z false) (negsuc 0) (pos 0)) ≡ z
number_back (pos zero) h = refl
number_back (pos (suc zero)) h = refl
number_back (pos (suc (suc n))) h = absurd (omega arith)
number_back (negsuc zero) h = refl
number_back (negsuc (suc n)) h = absurd (omega arith)

pub cell_number : (numbers : ℕ → ℤ) (set : Literals) → Names numbers set → (f : ℕ) → Three (numbers f) → cell set f ≡ numbers f
cell_number numbers set names f three =
    ap₂ (λ t u. cond t (pos 1) (cond u (negsuc 0) (pos 0))) (names f true) (names f false) ∙ number_back (numbers f) three

-- The counts, sets, rows and start say what the task means.
pub record Described (facts actions : ℕ) (usable : ActionSet) (rows : List Row) (start : ℕ) (goals : Literals) (m : Meaning) : Type 0 where
  pub lawful : Lawful m
  pub facts_are : facts ≡ m.facts
  pub actions_are : actions ≡ m.actions
  pub usable_are : (a : ℕ) → among usable a ≡ m.usable a
  pub rows_are : (a : ℕ) → NamesRow m a (row_at rows a)
  pub start_is : (f : ℕ) → f < m.facts → value (bit start f) ≡ m.start f
  pub goals_are : Names m.goal goals

module _ (facts actions : ℕ) (usable : ActionSet) (rows : List Row) (start : ℕ) (goals : Literals) (m : Meaning) (d : Described facts actions usable rows start goals m) where
  needs_named : (a : ℕ) → Names (m.needs a) (needs_at rows a)
  needs_named a = (d.rows_are a).0

  makes_named : (a : ℕ) → Names (m.makes a) (makes_at rows a)
  makes_named a = (d.rows_are a).1

  pub some : 1 ≤ facts
  some = let e = d.facts_are in let h = d.lawful.facts_some in omega arith

  pub few : facts ≤ 64
  few = let e = d.facts_are in let h = d.lawful.facts_most in omega arith

  pub most : actions ≤ 128
  most = let e = d.actions_are in let h = d.lawful.actions_most in omega arith

  pub own : (a : ℕ) → among usable a ≡ true → a < actions
  own a h = let e = d.actions_are in let l = usable_below m d.lawful a (sym (d.usable_are a) ∙ h) in omega arith

  past_facts : (numbers : ℕ → ℤ) → ((f : ℕ) → m.facts ≤ f → numbers f ≡ pos 0) → (f : ℕ) → facts ≤ f → numbers f ≡ pos 0
  past_facts numbers past f h = let e = d.facts_are in past f (omega arith)

  pub needed : (a : ℕ) → Under facts (needs_at rows a)
  needed a = names_under facts (m.needs a) (needs_at rows a) (needs_named a) (past_facts (m.needs a) (d.lawful.needs_past_fact a))

  pub made : (a : ℕ) → Under facts (makes_at rows a)
  made a = names_under facts (m.makes a) (makes_at rows a) (makes_named a) (past_facts (m.makes a) (d.lawful.makes_past_fact a))

  pub needs_once : (a : ℕ) → Single (needs_at rows a)
  needs_once a = names_single facts (m.needs a) (needs_at rows a) (needs_named a)

  pub makes_once : (a : ℕ) → Single (makes_at rows a)
  makes_once a = names_single facts (m.makes a) (makes_at rows a) (makes_named a)

  owned : (sets : ℕ → Literals) (numbers : ℕ → ℕ → ℤ) → ((a : ℕ) → Names (numbers a) (sets a)) → ((a f : ℕ) → m.actions ≤ a → numbers a f ≡ pos 0) → Own actions sets
  owned sets numbers named past a f v e = elim (cases_lt a actions) [
    | inl l ↦ l
    | inr l ↦ let h : m.actions ≤ a = let q = d.actions_are in omega arith in absurd (false≢true (sym (ap (λ z. says z v) (past a f h)) ∙ sym (named a f v) ∙ e))
  ]

  pub needing : Own actions (needs_at rows)
  needing = owned (needs_at rows) m.needs needs_named d.lawful.needs_past_action

  pub making : Own actions (makes_at rows)
  making = owned (makes_at rows) m.makes makes_named d.lawful.makes_past_action

  pub aimed : Under facts goals
  aimed = names_under facts m.goal goals d.goals_are (past_facts m.goal d.lawful.goal_past)

  pub aims_once : Single goals
  aims_once = names_single facts m.goal goals d.goals_are

  pub removes : (sets : List ActionSet) → length sets ≡ 64 → ((f a : ℕ) → f < 64 → among (set_at sets f) a ≡ has (makes_at rows a) f false) → Removes rows sets
  unfolding set_at member
  removes sets long made_of f a = elim (cases_lt f 64) [
    | inl l ↦ made_of f a l
    | inr l ↦
        let past : length sets ≤ f = omega arith in
        ap (λ (s : ActionSet). among s a) (get_or_past sets f (record { bits = 0 }) past) ∙ bit_zero a ∙ sym (none l (cases_Bool (has (makes_at rows a) f false)))
  ]
    where
      none : 64 ≤ f → (has (makes_at rows a) f false ≡ true) ⊎ (has (makes_at rows a) f false ≡ false) → has (makes_at rows a) f false ≡ false
      none l (inl e) = absurd (let k = made a f false e in let b = few in omega arith)
      none l (inr e) = e

  start_number : (f : ℕ) → starts facts start f ≡ m.start f
  start_number f = elim (cases_lt f facts) [
    | inl l ↦ cond-true (ltb f facts) (value (bit start f)) (pos 0) (lt-ltb f facts l) ∙ d.start_is f (let e = d.facts_are in omega arith)
    | inr l ↦ cond-false (ltb f facts) (value (bit start f)) (pos 0) (le-ltb f facts l) ∙ sym (past_facts m.start d.lawful.start_past f l)
  ]

  pub means : record { facts = facts; actions = actions; usable = among usable; needs = λ a. cell (needs_at rows a); makes = λ a. cell (makes_at rows a); start = starts facts start; goal = cell goals } ≡ m
  means =
      one_meaning (record { facts = facts; actions = actions; usable = among usable; needs = λ a. cell (needs_at rows a); makes = λ a. cell (makes_at rows a); start = starts facts start; goal = cell goals }) m
      d.facts_are d.actions_are d.usable_are
      (λ a f. cell_number (m.needs a) (needs_at rows a) (needs_named a) f (d.lawful.needs_three a f))
      (λ a f. cell_number (m.makes a) (makes_at rows a) (makes_named a) f (d.lawful.makes_three a f))
      start_number
      (λ f. cell_number m.goal goals d.goals_are f (d.lawful.goal_three f))

-- what describes a lawful task, by its rows and its start state
pub described : (m : Meaning) → Lawful m → (facts actions : ℕ) (usable : ActionSet) (rows : List Row) (start : ℕ) (goals : Literals)
    → facts ≡ m.facts → actions ≡ m.actions → ((a : ℕ) → among usable a ≡ m.usable a) → length rows ≡ 128 → ((a : ℕ) → a < 128 → NamesRow m a (get_or rows a idle))
    → start ≡ start_state m → Names m.goal goals → Described facts actions usable rows start goals m
described m law facts actions usable rows start goals fe ae used long made from aims = record {
  lawful = law;
  facts_are = fe;
  actions_are = ae;
  usable_are = used;
  rows_are = rows_named m law rows long made;
  start_is = λ f l. ap (λ x. value (bit x f)) from ∙ ap value (bit_packed (λ g. put (m.start g) false) m.facts f l) ∙ two_put (m.start f) (law.start_two f l);
  goals_are = aims;
}
