use Rattle.std.proofs.Common.{refl, arith}
use Rattle.tasks.specs.Bundle.{meaning}
use Rattle.tasks.proofs.Disjoint.{leaves, leaving}
use Rattle.tasks.proofs.independence.independent.Goals as goal

pub returns-then-apart : goal.returns-then-apart
returns-then-apart g c =
    let m = meaning g.T.Task c.args.task.now in
    let a = c.args.a in
    let b = c.args.b in
    record {
      value = (
        λ e. record {
          one = omega (arith, c.actions.ensures);
          other = omega (arith, c.actions-else-a-actions.ensures);
          forth = leaves m a b c.row-one.result.makes c.row-other.result.needs c.row-one.ensures.makes c.row-other.ensures.needs (c.if-apart.ensures.0 refl);
          back = leaves m b a c.row-other.result.makes c.row-one.result.needs c.row-other.ensures.makes c.row-one.ensures.needs (c.apart-then-apart.ensures.0 e);
        },
        λ h. c.apart-then-apart.ensures.1 (leaving m b a c.row-other.result.makes c.row-one.result.needs c.row-other.ensures.makes c.row-one.ensures.needs h.back),
      );
    }
