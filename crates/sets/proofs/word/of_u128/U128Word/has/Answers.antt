use Rattle.std.proofs.Common.{sym, arith}
use Rattle.sets.proofs.BitLaws.{bit_high, bit_test}
use Rattle.sets.proofs.word.of_u128.U128Word.has.Goals as goal

pub returns-then-i-ge128 : goal.returns-then-i-ge128
returns-then-i-ge128 c = sym (bit_high 128 c.args.self c.args.i (omega arith) (omega arith))

pub returns : goal.returns
returns c = bit_test c.args.self c.args.i
