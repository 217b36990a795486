-- Rows that name the numbers of their actions. The facts that masks keep follow from the numbers of a lawful task.
use Rattle.std.proofs.Common.{◌≡◌, ℕ, zero, suc, ◌<◌, ◌≤◌, Bool, true, false, List, length, get_or, ℤ, pos, negsuc, sym, refl, ap, ◌∙◌, subst, inl, inr, arith}
use Rattle.std.proofs.lemmas.List.{get_or_past}
use Rattle.std.proofs.lemmas.Bool.{cases_lt, false≢true}
use Rattle.sets.specs.Sets.{has, member}
use Rattle.sets.specs.Signs.{says}
use Rattle.sets.specs.declared.literals.Literals.{Literals}
use Rattle.sets.proofs.BitLaws.{bit_zero}
use Rattle.tasks.specs.declared.row.Row.{Row}
use Rattle.tasks.specs.Masks.{idle, nothing, row_at}
use Rattle.tasks.specs.Meaning.{Meaning, Lawful}
use Rattle.tasks.specs.Rows.{Names, Single, Under}

pub nothing_has : (f : ℕ) (v : Bool) → has nothing f v ≡ false
unfolding has member
nothing_has f true = bit_zero f
nothing_has f false = bit_zero f

-- the row names the numbers of the action
abbrev pub NamesRow : Meaning → ℕ → Row → Type 0
NamesRow m a row = Names (m.needs a) row.needs × Names (m.makes a) row.makes

-- where a table has a row for each number below its length, it has one for each action, and idle ones past them
pub rows_named : (m : Meaning) → Lawful m → (rows : List Row) → length rows ≡ 128 → ((a : ℕ) → a < 128 → NamesRow m a (get_or rows a idle)) → (a : ℕ) → NamesRow m a (row_at rows a)
unfolding row_at
rows_named m law rows long made a = elim (cases_lt a 128) [
  | inl l ↦ made a l
  | inr l ↦
      let past : m.actions ≤ a = omega (arith, law.actions_most) in
      let high : length rows ≤ a = omega arith in
      subst (λ (r : Row). NamesRow m a r) (sym (get_or_past rows a idle high)) (
        λ f v. nothing_has f v ∙ sym (ap (λ z. says z v) (law.needs_past_action a f past)),
        λ f v. nothing_has f v ∙ sym (ap (λ z. says z v) (law.makes_past_action a f past)),
      )
]

-- a set that names numbers is within the facts and has one sign of each, and its cells are the numbers
module _ (facts : ℕ) (numbers : ℕ → ℤ) (set : Literals) (names : Names numbers set) where
  pub names_under : ((f : ℕ) → facts ≤ f → numbers f ≡ pos 0) → Under facts set
  names_under past f v e = elim (cases_lt f facts) [
    | inl l ↦ l
    | inr l ↦ absurd (false≢true (sym (ap (λ z. says z v) (past f l)) ∙ sym (names f v) ∙ e))
  ]

  one_sign : (z : ℤ) → says z true ≡ true → says z false ≡ false
  one_sign (pos zero) e = refl
  one_sign (pos (suc n)) e = refl
  one_sign (negsuc n) e = absurd (false≢true e)

  pub names_single : Single set
  names_single f e = names f false ∙ one_sign (numbers f) (sym (names f true) ∙ e)
