use Rattle.std.proofs.Common.{arith}
use Rattle.sets.proofs.BitLaws.{bit_without}
use Rattle.sets.proofs.word.of_u32.U32Word.and_not.Goals as goal

pub returns : goal.returns
returns c = λ i. bit_without 32 c.args.self c.args.other i (omega arith) (omega arith)
