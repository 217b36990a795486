use Rattle.std.proofs.Common.{arith}
use Rattle.sets.proofs.Words.{lowest_some}
use Rattle.sets.proofs.word.of_u64.U64Word.lowest.Goals as goal

pub returns : goal.returns
returns c = lowest_some 64 c.args.self (omega arith)
