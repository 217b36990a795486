use Rattle.std.proofs.Common.{ℕ, ◌≤◌, ℤ}
use Rattle.tasks.specs.Rows.{Answers, NamesBelow}
use Rattle.tasks.proofs.task.literals_by.Given as goal

abbrev pub invariant-loop-f : goal.invariant-loop-f
invariant-loop-f g l =
    (l.f ≤ l.facts) × ((numbers : ℕ → ℤ) → Answers (goal.F-post g l.number) l.facts numbers → NamesBelow l.f numbers l.set)
