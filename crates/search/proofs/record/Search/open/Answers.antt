use Rattle.std.proofs.Common.{Ok}
use Rattle.tasks.specs.Bundle.{meaning}
use Rattle.search.specs.Calls.{Opened}
use Rattle.search.specs.Runs.Run.{opens}
use Rattle.search.specs.Stepped.{machine_of}
use Rattle.search.proofs.Forgetting.{forget_opening}
use Rattle.search.proofs.record.Search.open.Goals as goal

pub returns : goal.returns
returns g c =
    let m = meaning g.T.Task c.args.task.now in
    let S = machine_of c.args.self.now in
    let x = c.args.memory.now in
    let S' = machine_of c.put_up.new.self in
    let x' = c.empty.new.self in
    let does : Opened g.row.M.Denot g.M.Memory.empties m c.args.bound S x S' x' = record {
      allowed = c.in_ok-admit.ensures;
      search = c.put_up.ensures;
      emptied = c.empty.ensures.after;
    } in
    record {
      does = does;
      run = λ P m₀ h n run h' sound. opens run c.args.bound (g.M.Memory.has x) tt (g.met.T.Task.lawful c.args.task.now) sound
          (forget_opening g.row.M.Denot g.M.Memory.has g.M.Memory.empties g.met.M.Memory.forgets_all m c.args.bound S x S' x' (Ok tt) does);
    }
