use Rattle.std.proofs.Common.{arith}
use Rattle.sets.proofs.BitLaws.{bit_without}
use Rattle.sets.proofs.word.of_u128.U128Word.and_not.Goals as goal

pub returns : goal.returns
returns c = λ i. bit_without 128 c.args.self c.args.other i (omega arith) (omega arith)
