use Rattle.std.proofs.Common.{ap, ◌∙◌}
use Rattle.sheet.specs.Readers.{left, left_of}
use Rattle.sheet.proofs.Finds.{words_cut}
use Rattle.sheet.proofs.Yields.{goes}
use Rattle.sheet.proofs.words.WordsIterator.next.Goals as goal

pub returns-clause-steps : goal.returns-clause-steps
returns-clause-steps c =
    ap left_of c.in_ok-self.was ∙ words_cut c.in_ok-self.field-0.now c.cut.result.0.now c.cut.result.1 c.cut.ensures

pub returns-clause-goes : goal.returns-clause-goes
returns-clause-goes c =
    goes left c.args.self.now _ c.cut.result.0
    (ap left_of c.in_ok-self.was ∙ words_cut c.in_ok-self.field-0.now c.cut.result.0.now c.cut.result.1 c.cut.ensures)
