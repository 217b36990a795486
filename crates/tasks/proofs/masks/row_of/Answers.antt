use Rattle.std.proofs.Common.{sym, ap, ◌∙◌, arith}
use Rattle.sets.specs.Signs.{says}
use Rattle.tasks.proofs.masks.row_of.Goals as goal

pub returns-else-a-actions : goal.returns-else-a-actions
returns-else-a-actions g c =
    let law = g.met.T.Task.lawful c.args.task.now in
    record {
      needs = λ f v. c.none.ensures.needs f v ∙ sym (ap (λ z. says z v) (law.needs_past_action c.args.a f (omega (arith, c.requires))));
      makes = λ f v. c.none.ensures.makes f v ∙ sym (ap (λ z. says z v) (law.makes_past_action c.args.a f (omega (arith, c.requires))));
    }
