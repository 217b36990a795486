use Rattle.std.proofs.Common.{arith}
use Rattle.sets.proofs.Words.{lowest_some}
use Rattle.sets.proofs.word.of_u32.U32Word.lowest.Goals as goal

pub returns : goal.returns
returns c = lowest_some 32 c.args.self (omega arith)
