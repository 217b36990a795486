use Rattle.std.proofs.Common.{arith}
use Rattle.sets.proofs.Words.{only_bits, only_none}
use Rattle.sets.proofs.word.of_u64.U64Word.only.Goals as goal

pub returns-then-i-ge64 : goal.returns-then-i-ge64
returns-then-i-ge64 c = λ j. only_none 64 c.args.i j (omega arith)

pub returns-else-i-ge64 : goal.returns-else-i-ge64
returns-else-i-ge64 c = λ j. only_bits 64 c.args.i j (omega arith)
