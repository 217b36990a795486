use Rattle.std.proofs.Common.{Bool, false, ap, subst}
use Rattle.filter.specs.Calls.{stands}
use Rattle.filter.specs.Filtering.{Filtered}
use Rattle.filter.specs.Parts.{structure}
use Rattle.memories.specs.Pairs.{recalls}
use Rattle.tasks.specs.Masked.{masked}
use Rattle.search.proofs.Deciding.{next_wiped}
use Rattle.search.proofs.advisers.Advisers.decide.Goals as goal

pub returns-in-Wiped : goal.returns-in-Wiped
returns-in-Wiped g c =
    let m = masked c.args.snapshot.now in
    let q = structure c.filter.new.self.part in
    record {
      stands = false;
      result = q;
      filtered = subst (λ (b : Bool). Filtered m (structure c.args.part.part) b q) (ap stands c.in-Wiped.is) c.filter.ensures.value.1;
      comes = λ bound from rest. next_wiped m (recalls (g.M.Memory.has c.args.self.now.memory.now)) (g.E.Estimator.hopeless c.args.self.now.estimator.now m) bound q.round from q rest;
    }
