-- A task is made of tables that are in their ranges.
use Rattle.std.proofs.Common.{ℕ, List, ℤ, IsOk, Ok, Err, Result, refl}
use Rattle.tasks.specs.declared.masks.Masks.{Masks}
use Rattle.tasks.specs.declared.refusal.Refusal.{Refusal}
use Rattle.tasks.specs.declared.refusal.Refusal.TheVariants.{Count, Short, Cell, Action, Literal}
use Rattle.tasks.specs.Tabled.{Tabled}
use Rattle.tasks.specs.Tables.{Limits, Long, Ranges}

pub is_made : (facts actions : ℕ) (needs makes start goal : List ℤ) → Limits facts actions → Long facts actions needs makes start goal → Ranges facts actions needs makes start goal
    → (r : Result Masks Refusal) → Tabled facts actions needs makes start goal r → IsOk r
is_made facts actions needs makes start goal few long ranges (Ok task) h = refl
is_made facts actions needs makes start goal few long ranges (Err Count) h = absurd (h few)
is_made facts actions needs makes start goal few long ranges (Err Short) h = absurd (h.1 long)
is_made facts actions needs makes start goal few long ranges (Err Cell) h = absurd (h.2 ranges)
is_made facts actions needs makes start goal few long ranges (Err Action) h = absurd h
is_made facts actions needs makes start goal few long ranges (Err Literal) h = absurd h
