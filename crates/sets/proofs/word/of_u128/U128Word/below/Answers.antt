use Rattle.std.proofs.Common.{arith}
use Rattle.std.proofs.lemmas.Nat.{one_shl, pow_pos}
use Rattle.sets.proofs.Words.{below_bits, full_bits}
use Rattle.sets.proofs.word.of_u128.U128Word.below.Goals as goal

pub overflow_sub-result : goal.overflow_sub-result
overflow_sub-result c = rw (one_shl c.args.n 128 (omega arith)) (pow_pos c.args.n)

pub returns-then-n-ge128 : goal.returns-then-n-ge128
returns-then-n-ge128 c = λ i. full_bits 128 c.args.n i (omega arith)

pub returns-else-n-ge128 : goal.returns-else-n-ge128
returns-else-n-ge128 c = λ i. below_bits 128 c.args.n i (omega arith)
