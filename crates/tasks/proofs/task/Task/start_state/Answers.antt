use Rattle.std.proofs.Common.{◌^◌, ◌<◌, ◌≤◌, false, ap, ◌∙◌, arith, rules}
use Rattle.tasks.specs.States.{packed, put}
use Rattle.tasks.proofs.Starting.{named_state}
use Rattle.tasks.proofs.task.Task.start_state.Goals as goal

pub returns : goal.returns
returns g c =
    let t = c.args.self.now in
    let few : c.facts.result ≤ 64 = omega (arith, c.facts.ensures, (g.met.Self.Task.lawful t).facts_most) in
    let small : c.literals_by.result.trues.bits < 2 ^ 64 = search rules in
    named_state (g.Self.Task.start t) c.facts.result c.literals_by.result few small (c.literals_by.ensures (g.Self.Task.start t) (λ f z l p. search rules))
    ∙ ap (packed (λ f. put (g.Self.Task.start t f) false)) c.facts.ensures
