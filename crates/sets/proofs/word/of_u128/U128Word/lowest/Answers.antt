use Rattle.std.proofs.Common.{arith}
use Rattle.sets.proofs.Words.{lowest_some}
use Rattle.sets.proofs.word.of_u128.U128Word.lowest.Goals as goal

pub returns : goal.returns
returns c = lowest_some 128 c.args.self (omega arith)
