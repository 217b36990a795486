use Rattle.std.proofs.Common.{arith}
use lib.Bits.{and_le_l}
use Rattle.sets.proofs.Words.{drop_word, drop_less}
use Rattle.sets.proofs.word.of_u32.U32Word.without_lowest.Goals as goal

pub returns-clause-others : goal.returns-clause-others
returns-clause-others c = λ l low i. drop_word 32 c.args.self _ l i (omega arith) (λ p. omega arith) low

pub returns-clause-less : goal.returns-clause-less
returns-clause-less c = drop_less c.args.self _ (λ p. omega arith)

pub returns-clause-fits : goal.returns-clause-fits
returns-clause-fits c = omega (arith, and_le_l c.args.self)
