use Rattle.std.proofs.Common.{◌≡◌, ◌≤◌, length, take, vec_items, vec_len, vec_capacity}
use Rattle.tasks.specs.Bundle.{meaning}
use Rattle.search.specs.Played.{Calls}
use Rattle.search.specs.Stepped.{machine_of}
use Rattle.search.proofs.play.play.Given as goal

abbrev pub invariant-loop-call : goal.invariant-loop-call
invariant-loop-call g l = record {
  within : l.call-index ≤ length l.calls;
  one_each : vec_len l.answers ≡ l.call-index;
  room : vec_capacity l.answers ≡ vec_capacity l.initial.answers;
  made : Calls g.M.Memory g.E.Estimator (meaning g.T.Task l.task) l.estimator (take l.call-index l.calls) (vec_items l.answers) (machine_of l.initial.search) l.initial.memory (machine_of l.search) l.memory;
}
