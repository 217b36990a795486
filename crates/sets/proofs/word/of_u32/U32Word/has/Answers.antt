use Rattle.std.proofs.Common.{sym, arith}
use Rattle.sets.proofs.BitLaws.{bit_high, bit_test}
use Rattle.sets.proofs.word.of_u32.U32Word.has.Goals as goal

pub returns-then-i-ge32 : goal.returns-then-i-ge32
returns-then-i-ge32 c = sym (bit_high 32 c.args.self c.args.i (omega arith) (omega arith))

pub returns : goal.returns
returns c = bit_test c.args.self c.args.i
