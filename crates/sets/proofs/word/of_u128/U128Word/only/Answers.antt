use Rattle.std.proofs.Common.{arith}
use Rattle.sets.proofs.Words.{only_bits, only_none}
use Rattle.sets.proofs.word.of_u128.U128Word.only.Goals as goal

pub returns-then-i-ge128 : goal.returns-then-i-ge128
returns-then-i-ge128 c = λ j. only_none 128 c.args.i j (omega arith)

pub returns-else-i-ge128 : goal.returns-else-i-ge128
returns-else-i-ge128 c = λ j. only_bits 128 c.args.i j (omega arith)
