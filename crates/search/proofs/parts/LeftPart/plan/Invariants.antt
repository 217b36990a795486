use Rattle.std.proofs.Common.{◌≡◌, ◌≤◌, length}
use Rattle.search.specs.LeftParts.{left_of, task_of}
use Rattle.search.specs.Parts.{actions_of}
use Rattle.search.specs.Steps.{plan_from}
use Rattle.search.proofs.parts.LeftPart.plan.Given as goal

abbrev pub invariant-loop-step : goal.invariant-loop-step
invariant-loop-step l = record {
  long : length (actions_of l.plan) ≡ l.step-index;
  within : l.step-index ≤ length l.steps;
  lowest : actions_of l.plan ≡ plan_from (task_of l.self) (left_of l.self) l.step-index 0;
}
