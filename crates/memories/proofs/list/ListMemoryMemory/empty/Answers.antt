use Rattle.memories.proofs.Chaining.{chained_none}
use Rattle.memories.proofs.list.ListMemoryMemory.empty.Goals as goal

pub invariant_of-self : goal.invariant_of-self
invariant_of-self c = rw c.clear.ensures (chained_none c.self.inside.links c.self.invariant.tall)
