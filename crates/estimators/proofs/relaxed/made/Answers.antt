use Rattle.std.proofs.Common.{◌≡◌, ◌&&◌, sym, ap, ◌∙◌}
use Rattle.sets.specs.Sets.{has}
use Rattle.sets.specs.Signs.{says}
use Rattle.estimators.specs.Layers.{inside}
use Rattle.estimators.proofs.Growing.{inside_is}
use Rattle.estimators.proofs.relaxed.made.Goals as goal

pub returns-then-lies_in : goal.returns-then-lies_in
returns-then-lies_in g c =
    let t = g.T.Task in
    let task = c.args.task.now in
    let a = c.args.a in
    let had : c.lies_in.result ≡ inside (t.facts task) (t.needs task a) (has c.args.layer) =
    inside_is (t.facts task) (t.needs task a) c.row-row.result.needs (has c.args.layer) c.lies_in.result ((g.met.T.Task.lawful task).needs_past_fact a) c.row-row.ensures.needs c.lies_in.ensures.value in
    record { value = λ f v. c.row-row.ensures.makes f v ∙ ap (λ b. b && says (t.makes task a f) v) (sym c.if-lies_in.true ∙ had) }

pub returns-else-lies_in : goal.returns-else-lies_in
returns-else-lies_in g c =
    let t = g.T.Task in
    let task = c.args.task.now in
    let a = c.args.a in
    let had : c.lies_in.result ≡ inside (t.facts task) (t.needs task a) (has c.args.layer) =
    inside_is (t.facts task) (t.needs task a) c.row-row.result.needs (has c.args.layer) c.lies_in.result ((g.met.T.Task.lawful task).needs_past_fact a) c.row-row.ensures.needs c.lies_in.ensures.value in
    record { value = λ f v. c.none.ensures.value f v ∙ ap (λ b. b && says (t.makes task a f) v) (sym c.if-lies_in.false ∙ had) }
