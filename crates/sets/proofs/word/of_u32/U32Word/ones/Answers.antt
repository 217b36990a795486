use Rattle.std.proofs.Common.{arith}
use Rattle.sets.proofs.Counting.{ones_count}
use Rattle.sets.proofs.word.of_u32.U32Word.ones.Goals as goal

pub returns : goal.returns
returns c = ones_count 32 c.args.self (omega arith)
