use Rattle.std.proofs.Common.{sym, arith}
use Rattle.sets.proofs.BitLaws.{bit_high, bit_test}
use Rattle.sets.proofs.word.of_u64.U64Word.has.Goals as goal

pub returns-then-i-ge64 : goal.returns-then-i-ge64
returns-then-i-ge64 c = sym (bit_high 64 c.args.self c.args.i (omega arith) (omega arith))

pub returns : goal.returns
returns c = bit_test c.args.self c.args.i
