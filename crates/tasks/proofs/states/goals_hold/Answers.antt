use Rattle.tasks.proofs.Acting.{meets_named}
use Rattle.tasks.proofs.states.goals_hold.Goals as goal

pub returns : goal.returns
returns g c =
    let t = c.args.task.now in
    let law = g.met.T.Task.lawful t in
    record {
      value = meets_named (g.T.Task.facts t) (g.T.Task.goal t) c.goals.result c.args.state c.all_hold.result
          c.goals.ensures law.goal_three law.goal_past c.all_hold.ensures;
    }
