-- Masks are a lawful task: a set of literals has one number for each fact, and it is 0 where the set has no literal.
use Rattle.std.specs.Prelude.{◌≡◌, ℕ, ◌≤◌, Bool, true, false, cond, ℤ, pos, negsuc, ◌≢◌, nat_lt, refl}
use Rattle.std.proofs.Common.{◌∙◌, inl, inr, arith, lit≤}
use Rattle.std.proofs.lemmas.Bool.{cases_Bool, cond-false, le-ltb}
use Rattle.sets.specs.Sets.{has, among}
use Rattle.sets.specs.Bits.{bit}
use Rattle.sets.specs.Signs.{says}
use Rattle.sets.specs.declared.literals.Literals.{Literals}
use Rattle.tasks.specs.declared.masks.Masks.{Masks}
use Rattle.tasks.specs.Meaning.{Lawful, Three, value}
use Rattle.tasks.specs.Masked.{masked}
use Rattle.tasks.specs.Masks.{needs_at, makes_at}
use Rattle.tasks.specs.Rows.{Names, Single, Under, cell}
use Rattle.tasks.specs.Layers.{start_two}

-- the number by the two tests
abbrev number : Bool → Bool → ℤ
number t f = cond t (pos 1) (cond f (negsuc 0) (pos 0))

number_three : (t f : Bool) → Three (number t f)
number_three true f = lit≤ tt
number_three false true = lit≤ tt
number_three false false = lit≤ tt

number_says : (t f : Bool) → (t ≡ true → f ≡ false) → (v : Bool) → cond v t f ≡ says (number t f) v
number_says true f h true = refl
number_says true f h false = h refl
number_says false true h true = refl
number_says false true h false = refl
number_says false false h true = refl
number_says false false h false = refl

by_value : (set : Literals) (f : ℕ) (v : Bool) → has set f v ≡ cond v (has set f true) (has set f false)
by_value set f true = refl
by_value set f false = refl

pub cell_three : (set : Literals) (f : ℕ) → Three (cell set f)
cell_three set f = number_three (has set f true) (has set f false)

-- where the set has no literal of the fact, the number is 0
pub cell_none : (set : Literals) (f : ℕ) → ((v : Bool) → has set f v ≡ true → ⊥) → cell set f ≡ pos 0
cell_none set f none = go (has set f true) (has set f false) (none true) (none false)
  where
    go : (t u : Bool) → (t ≢ true) → (u ≢ true) → number t u ≡ pos 0
    go true u p q = absurd (p refl)
    go false true p q = absurd (q refl)
    go false false p q = refl

pub cell_names : (set : Literals) → Single set → Names (cell set) set
cell_names set once f v = by_value set f v ∙ number_says (has set f true) (has set f false) (once f) v

pub cell_past : (facts : ℕ) (set : Literals) → Under facts set → (f : ℕ) → facts ≤ f → cell set f ≡ pos 0
cell_past facts set under f past = cell_none set f (λ v e. let l = under f v e in omega arith)

pub masked_lawful : (t : Masks) → Lawful (masked t)
masked_lawful t = record {
  facts_some = t.some;
  facts_most = t.few;
  actions_most = t.most;
  needs_three = λ a. cell_three (needs_at t.rows a);
  makes_three = λ a. cell_three (makes_at t.rows a);
  goal_three = cell_three t.goals;
  start_two = start_two t.facts (bit t.start);
  usable_past = past;
  needs_past_action = λ a f h. cell_none (needs_at t.rows a) f (λ v e. let l = t.needing a f v e in omega arith);
  needs_past_fact = λ a. cell_past t.facts (needs_at t.rows a) (t.needed a);
  makes_past_action = λ a f h. cell_none (makes_at t.rows a) f (λ v e. let l = t.making a f v e in omega arith);
  makes_past_fact = λ a. cell_past t.facts (makes_at t.rows a) (t.made a);
  start_past = λ f h. cond-false (nat_lt f t.facts) (value (bit t.start f)) (pos 0) (le-ltb f t.facts h);
  goal_past = cell_past t.facts t.goals t.aimed;
}
  where
    past : (a : ℕ) → t.actions ≤ a → among t.usable a ≡ false
    past a h = elim (cases_Bool (among t.usable a)) [ inl e ↦ absurd (let l = t.own a e in omega arith) | inr e ↦ e ]
