use Rattle.std.proofs.Common.{sym}
use Rattle.tasks.proofs.Acting.{meets_named}
use Rattle.tasks.proofs.states.applies.Goals as goal

pub returns-then-usable : goal.returns-then-usable
returns-then-usable g c =
    let t = c.args.task.now in
    let a = c.args.a in
    let law = g.met.T.Task.lawful t in
    let d = meets_named (g.T.Task.facts t) (g.T.Task.needs t a) c.row.result.needs c.args.state c.all_hold.result
    c.row.ensures.needs (law.needs_three a) (law.needs_past_fact a) c.all_hold.ensures in
    record { value = (λ e. record { usable = sym c.if-usable.ensures; met = d.0 e }, λ applies. d.1 applies.met) }
