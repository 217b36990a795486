use Rattle.filter.proofs.Finishing.{from_kept, from_wiped, plans_stay_from}
use Rattle.filter.proofs.part.BoundedPart.filter_from.Goals as goal

pub returns-in-Kept : goal.returns-in-Kept
returns-in-Kept g c =
    let done = from_kept _ _ _ c.args.due c.args.self.now.few c.in-Kept.ensures.value in
    record { value = done; plans = plans_stay_from _ (g.met.T.Task.lawful c.args.task.now) _ _ _ _ done }

pub returns-in-Wiped : goal.returns-in-Wiped
returns-in-Wiped g c =
    let done = from_wiped _ _ _ _ c.args.due _ _ c.args.self.now.few c.in-Wiped.ensures.value c.restrict.ensures.value c.none.ensures.value c.none-in-Wiped.ensures.value in
    record { value = done; plans = plans_stay_from _ (g.met.T.Task.lawful c.args.task.now) _ _ _ _ done }
