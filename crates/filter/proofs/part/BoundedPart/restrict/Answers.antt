use Rattle.std.proofs.Common.{◌+◌, ◌≤◌, length, refl, arith}
use Rattle.filter.proofs.Restricting.{changed_none, changed_more, changed_front, changed_past}
use Rattle.filter.proofs.part.BoundedPart.restrict.Goals as goal

pub loop-step-init : goal.loop-step-init
loop-step-init c = changed_none _ _ _

pub loop-step-preserved : goal.loop-step-preserved
loop-step-preserved c = changed_more _ _ _ _ _ _ c.loop-step.invariant (omega arith) c.common.ensures.value

pub loop-level-init : goal.loop-level-init
loop-level-init c = changed_none _ _ _

pub loop-level-preserved : goal.loop-level-preserved
loop-level-preserved c = changed_more _ _ _ _ _ _ c.loop-level.invariant (omega arith) c.common-in-loop-level.ensures.value

pub returns : goal.returns
returns c =
    let p = c.args.self.now.part in
    let steps : p.round ≤ length p.steps = omega arith in
    let levels : p.round + 1 ≤ length p.levels = omega arith in
    record {
      value = record {
        round = refl;
        steps = λ i a l. changed_front _ _ _ _ _ _ steps c.loop-step-test.false c.loop-step.invariant i l a;
        levels = λ i f v l. changed_front _ _ _ _ _ _ levels c.loop-level-test.false c.loop-level.invariant i (omega arith) f v;
        past = record {
          steps = λ i l. changed_past _ _ _ _ _ _ steps c.loop-step-test.false c.loop-step.invariant i l;
          levels = λ i l. changed_past _ _ _ _ _ _ levels c.loop-level-test.false c.loop-level.invariant i (omega arith);
        };
      };
    }
