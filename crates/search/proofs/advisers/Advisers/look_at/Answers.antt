use Rattle.std.proofs.Common.{[], sym, ap, ◌∙◌}
use Rattle.filter.specs.Parts.{structure}
use Rattle.memories.specs.Pairs.{recalls}
use Rattle.tasks.specs.Masked.{masked}
use Rattle.search.specs.Machines.Stage.{found}
use Rattle.search.proofs.Deciding.{next_dropped, next_found, next_split}
use Rattle.search.proofs.advisers.Advisers.look_at.Goals as goal

pub returns-in_default : goal.returns-in_default
returns-in_default g c bound from rest =
    let m = masked c.args.part.snapshot.now in
    let p = c.args.part.part.now.part in
    next_found m (recalls (g.M.Memory.has c.args.self.now.memory.now)) (g.E.Estimator.hopeless c.args.self.now.estimator.now m) bound p.round from (structure p) rest (sym c.in_default.ensures)
    ∙ ap (λ acts. record { machine = record { stage = found acts; bound = bound; round = p.round; entries = rest }; keeps = [] }) (sym c.plan.ensures)

pub returns-then-rule_out : goal.returns-then-rule_out
returns-then-rule_out g c bound from rest =
    let m = masked c.args.part.snapshot.now in
    let p = c.args.part.part.now.part in
    let at = c.in-Some.ensures in
    next_dropped m (recalls (g.M.Memory.has c.args.self.now.memory.now)) (g.E.Estimator.hopeless c.args.self.now.estimator.now m) bound p.round from (structure p) rest
    c.in-Some.step at.1 at.0 (sym c.if-rule_out.ensures)

pub returns : goal.returns
returns g c bound from rest =
    let m = masked c.args.part.snapshot.now in
    let p = c.args.part.part.now.part in
    let at = c.in-Some.ensures in
    next_split m (recalls (g.M.Memory.has c.args.self.now.memory.now)) (g.E.Estimator.hopeless c.args.self.now.estimator.now m) bound p.round from (structure p) rest
    c.in-Some.step at.1 at.0 (sym c.if-rule_out.ensures) c.halves.result c.halves.ensures
