use Rattle.std.proofs.Common.{◌≡◌, ℕ, false, ◌&&◌, ltb}
use Rattle.sets.specs.Sets.{among, has}
use Rattle.tasks.specs.Masks.{makes_at}
use Rattle.tasks.proofs.masks.removers_of.Given as goal

abbrev pub invariant-loop-a : goal.invariant-loop-a
invariant-loop-a l = (b : ℕ) → among l.set b ≡ (ltb b l.a && has (makes_at l.rows b) l.f false)
