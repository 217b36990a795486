use Rattle.std.proofs.Common.{◌≡◌, ℕ, List, ◌++◌, length}
use Rattle.search.specs.Calls.{Keeps}
use Rattle.search.specs.Entries.{below_pairs, entries_of, pairs_on_top}
use Rattle.search.proofs.stack.Stack.settle.Given as goal

abbrev pub invariant-loop-pair : goal.invariant-loop-pair
invariant-loop-pair g l = record {
  below : below_pairs (entries_of l.self) ≡ below_pairs (entries_of l.initial.self);
  kept : (done : List (ℕ × ℕ)) × (pairs_on_top (entries_of l.initial.self) ≡ done ++ pairs_on_top (entries_of l.self)) × Keeps _ g.M.Memory.keeps done l.initial.memory l.memory;
}

abbrev pub decreases-loop-pair : goal.decreases-loop-pair
decreases-loop-pair g l = length (entries_of l.self)
