use Rattle.std.proofs.Common.{arith}
use Rattle.sets.proofs.Counting.{ones_count}
use Rattle.sets.proofs.word.of_u128.U128Word.ones.Goals as goal

pub returns : goal.returns
returns c = ones_count 128 c.args.self (omega arith)
