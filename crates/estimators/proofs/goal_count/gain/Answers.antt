use Rattle.std.proofs.Common.{true, false, ◌||◌, ◌∙◌}
use Rattle.sets.specs.Sets.{has}
use Rattle.sets.proofs.Counting.{count_ext}
use Rattle.tasks.specs.Bundle.{meaning}
use Rattle.estimators.proofs.Gaining.{tally}
use Rattle.estimators.proofs.goal_count.gain.Goals as goal

pub returns : goal.returns
returns g c =
    let both = c.common.ensures.value in
    let makes = c.row.ensures.makes in
    record {
      value = c.size.ensures.value
          ∙ count_ext (λ f. has c.common.result f true || has c.common.result f false) (tally (meaning g.T.Task c.args.task.now) c.args.a c.args.missing) 64 (λ f lt. rw (both f true, both f false, makes f true, makes f false));
    }
