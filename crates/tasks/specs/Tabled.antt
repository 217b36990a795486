-- What making a task of tables answers.
use Rattle.std.specs.Prelude.{◌≡◌, ℕ, List, ℤ, Ok, Err, Result}
use Rattle.tasks.specs.declared.refusal.Refusal.{Refusal}
use Rattle.tasks.specs.declared.refusal.Refusal.TheVariants.{Count, Short, Cell, Action, Literal}
use Rattle.tasks.specs.declared.masks.Masks.{Masks}
use Rattle.tasks.specs.Masked.{masked}
use Rattle.tasks.specs.Tables.{Limits, Long, Ranges, table_task}

-- The checks in their order: counts, then lengths, then cells. Where all pass, the task means what the tables say.
abbrev pub Tabled : ℕ → ℕ → List ℤ → List ℤ → List ℤ → List ℤ → Result Masks Refusal → Type 0
Tabled facts actions needs makes start goal (Ok t) =
    Limits facts actions × Long facts actions needs makes start goal × Ranges facts actions needs makes start goal
    × (masked t ≡ table_task facts actions needs makes start goal)
Tabled facts actions needs makes start goal (Err Count) = Limits facts actions → ⊥
Tabled facts actions needs makes start goal (Err Short) =
    Limits facts actions × (Long facts actions needs makes start goal → ⊥)
Tabled facts actions needs makes start goal (Err Cell) =
    Limits facts actions × Long facts actions needs makes start goal
    × (Ranges facts actions needs makes start goal → ⊥)
Tabled facts actions needs makes start goal (Err Action) = ⊥
Tabled facts actions needs makes start goal (Err Literal) = ⊥
