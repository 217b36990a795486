use Rattle.std.proofs.Common.{false, sym, refl}
use Rattle.memories.specs.Recalling.{recalls_nothing}
use Rattle.memories.proofs.none.NoMemoryMemory.recall.Goals as goal

pub returns : goal.returns
returns c = record { value = sym (recalls_nothing (λ _ _. false) c.args._state c.args._left (λ m. refl)) }
