use Rattle.std.proofs.Common.{arith}
use Rattle.sets.proofs.Words.{only_bits, only_none}
use Rattle.sets.proofs.word.of_u32.U32Word.only.Goals as goal

pub returns-then-i-ge32 : goal.returns-then-i-ge32
returns-then-i-ge32 c = λ j. only_none 32 c.args.i j (omega arith)

pub returns-else-i-ge32 : goal.returns-else-i-ge32
returns-else-i-ge32 c = λ j. only_bits 32 c.args.i j (omega arith)
