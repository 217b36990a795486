use Rattle.std.proofs.Common.{◌^◌, ◌<◌, rules}
use Rattle.std.proofs.lemmas.Bool.{both_ways}
use Rattle.sets.proofs.Membership.{member_below}
use Rattle.filter.proofs.Looking.{looked_none, look_past, look_more}
use Rattle.filter.proofs.stage.StageMasks.look_over.Goals as goal

pub loop-a-init : goal.loop-a-init
loop-a-init g c =
    rw c.into_iter-a-iterator.ensures.into_iter_gives.left
    (looked_none _ c.args.self _ _ c.none.ensures.value c.none-2.ensures.value c.all_literals-all.ensures.value c.all_literals-all.ensures.value)

pub loop-a-preserved : goal.loop-a-preserved
loop-a-preserved g c =
    look_past _ (g.met.T.Task.lawful c.args.task.now) _ _ _ _ c.row-row.ensures.needs c.row-row.ensures.makes
    _ _ _ c.in-Some.ensures.steps.1.1 c.loop-a.invariant (λ h. both_ways _ c.if-fits.false (c.fits.ensures.value.1 h))

pub loop-a-preserved-then-fits : goal.loop-a-preserved-then-fits
loop-a-preserved-then-fits g c =
    let fits : c.args.self.left.bits < 2 ^ 128 = search rules in
    let there = c.in-Some.ensures.steps.1.0.member in
    look_more _ (g.met.T.Task.lawful c.args.task.now) _ _ _ _ c.row-row.ensures.needs c.row-row.ensures.makes
    _ _ _ c.in-Some.ensures.steps.1.1 c.loop-a.invariant _ c.add.ensures.value
    (member_below 128 c.args.self.left c.in-Some.a fits (c.loop-a.invariant.rests c.in-Some.a there)) there (c.fits.ensures.value.0 c.if-fits.true)

pub returns : goal.returns
returns g c =
    let i = c.loop-a.invariant in
    record {
      value = record {
        from = i.from;
        fit = i.fit;
        stays = λ a k h. i.stays a k (c.in-None.ensures.steps.1.0 a) h;
        making = i.making;
        agreeing = i.agreeing;
        wanting = i.wanting;
      };
    }
