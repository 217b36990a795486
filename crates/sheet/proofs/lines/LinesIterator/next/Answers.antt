use Rattle.sheet.specs.Readers.{to_come}
use Rattle.sheet.proofs.LineCuts.{none, some}
use Rattle.sheet.proofs.Yields.{goes}
use Rattle.sheet.proofs.lines.LinesIterator.next.Goals as goal

pub returns-in_err-self-clause-steps : goal.returns-in_err-self-clause-steps
returns-in_err-self-clause-steps c =
    let e = none c.args.self.now.rest.now c.cut.result.0.now c.cut.result.1 c.cut.ensures c.in_err-self.was in
    rw c.from_residual.ensures (e, e)

pub returns-clause-steps : goal.returns-clause-steps
returns-clause-steps c = some c.args.self.now.rest.now c.cut.result.0.now c.cut.result.1 c.in_ok-self.field-0 c.cut.ensures c.in_ok-self.was

pub returns-clause-goes : goal.returns-clause-goes
returns-clause-goes c =
    goes to_come c.args.self.now _ c.cut.result.0
    (some c.args.self.now.rest.now c.cut.result.0.now c.cut.result.1 c.in_ok-self.field-0 c.cut.ensures c.in_ok-self.was)
