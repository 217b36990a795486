use Rattle.std.proofs.Common.{rules}
use Rattle.filter.proofs.Finishing.{filters, plans_stay}
use Rattle.filter.proofs.part.BoundedPart.filter.Goals as goal

pub returns : goal.returns
returns g c =
    let lw = g.met.T.Task.lawful c.args.task.now in
    let few = c.args.self.now.few in
    record {
      value = filters _ lw _ _ _ _ _ _ _ few c.restrict.ensures.value (search rules) c.all_literals.ensures.value c.below-2.ensures.value c.filter_from.ensures.value;
      plans = plans_stay _ lw _ _ _ _ _ _ _ few c.restrict.ensures.value (search rules) c.all_literals.ensures.value c.below-2.ensures.value c.filter_from.ensures.value;
    }
