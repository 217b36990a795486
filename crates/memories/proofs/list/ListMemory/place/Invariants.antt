use Rattle.memories.proofs.Chaining.{Walks, up_to}
use Rattle.memories.proofs.list.ListMemory.place.Given as goal

abbrev pub invariant-loop-next : goal.invariant-loop-next
invariant-loop-next l = Walks l.self-inside.rows.items l.state l.next

abbrev pub decreases-loop-next : goal.decreases-loop-next
decreases-loop-next l = up_to l.next
