use Rattle.std.proofs.Common.{rules, tests}
use Rattle.memories.proofs.Recalling.{recalls-slot}
use Rattle.memories.proofs.slot.SlotMemoryMemory.recall.Goals as goal

pub returns : goal.returns
returns c = record { value = rw (← c.self.view_is) (recalls-slot c.self.inside.rows c.args.state c.args.left c.is_some_and.result _ (λ r q. (search (rules, tests), search (rules, tests))) (rw c.slot_of-slot.ensures.value at c.is_some_and.ensures)) }
