use Rattle.std.proofs.Common.{rules, tests}
use Rattle.memories.proofs.Finding.{recalls-position}
use Rattle.memories.proofs.list.ListMemoryMemory.recall.Goals as goal

pub returns : goal.returns
returns c = record { value = recalls-position c.args.self.now c.args.state c.args.left c.is_some_and.result _ (rw c.rows-rows.ensures.value at c.rows-rows.ensures.listed.apart) (λ i q. (search (rules, tests), search (rules, tests))) (rw c.place.ensures at c.is_some_and.ensures) }
