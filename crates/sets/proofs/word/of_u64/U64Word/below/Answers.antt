use Rattle.std.proofs.Common.{arith}
use Rattle.std.proofs.lemmas.Nat.{one_shl, pow_pos}
use Rattle.sets.proofs.Words.{below_bits, full_bits}
use Rattle.sets.proofs.word.of_u64.U64Word.below.Goals as goal

pub overflow_sub-result : goal.overflow_sub-result
overflow_sub-result c = rw (one_shl c.args.n 64 (omega arith)) (pow_pos c.args.n)

pub returns-then-n-ge64 : goal.returns-then-n-ge64
returns-then-n-ge64 c = λ i. full_bits 64 c.args.n i (omega arith)

pub returns-else-n-ge64 : goal.returns-else-n-ge64
returns-else-n-ge64 c = λ i. below_bits 64 c.args.n i (omega arith)
