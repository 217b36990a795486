use Rattle.std.proofs.Common.{ℕ, None, Option, replicate}
use Rattle.std.proofs.lemmas.List.{length-replicate}
use Rattle.memories.proofs.Chaining.{chained_none}
use Rattle.memories.proofs.list.ListMemory.new.Goals as goal

pub invariant_of-result : goal.invariant_of-result
invariant_of-result c = rw c.new.ensures (chained_none (replicate 256 None) (length-replicate {A = Option ℕ} 256 None))
