use Rattle.std.proofs.Common.{◌≡◌, ℕ, Bool, ◌&&◌}
use Rattle.sets.specs.Sets.{has, among}
use Rattle.filter.specs.Parts.{no_actions, no_literals}
use Rattle.filter.proofs.Restricting.{Changed}
use Rattle.filter.proofs.part.BoundedPart.restrict.Given as goal

abbrev pub invariant-loop-step : goal.invariant-loop-step
invariant-loop-step l = Changed no_actions (λ x y. (a : ℕ) → among y a ≡ (among x a && among l.actions a)) l.initial.step-items l.step-items l.step-index

abbrev pub invariant-loop-level : goal.invariant-loop-level
invariant-loop-level l = Changed no_literals (λ x y. (f : ℕ) (v : Bool) → has y f v ≡ (has x f v && has l.values f v)) l.initial.level-items l.level-items l.level-index
