use Rattle.std.proofs.Common.{Ok}
use Rattle.tasks.specs.Bundle.{meaning}
use Rattle.search.specs.Calls.{Lifted}
use Rattle.search.specs.Runs.Run.{lifts}
use Rattle.search.specs.Stepped.{machine_of}
use Rattle.search.proofs.record.Search.lift.Goals as goal

pub returns : goal.returns
returns g c =
    let m = meaning g.T.Task c.args.task.now in
    let S = machine_of c.args.self.now in
    let S' = machine_of c.put_up.new.self in
    let does : Lifted m c.args.bound S S' = record {
      allowed = c.in_ok-admit.ensures;
      search = c.put_up.ensures;
    } in
    record { does = does; run = λ P h n run. lifts run c.args.bound (Ok tt) does }
