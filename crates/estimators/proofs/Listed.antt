-- What the iterator over a set of numbers gives: the members of the set.
use Rattle.std.proofs.Common.{ℕ, List, length, ap, subst}
use Rattle.std.proofs.lemmas.Iterator.{YieldsList}
use Rattle.std.proofs.lemmas.Iterator.Consumers.{YieldsList-from_shown}
use Rattle.sets.specs.Members.{ListsMembers, TakesLowest, members, members_left}
use Rattle.sets.specs.declared.bit_sets.BitSet.{BitSet}
use Rattle.sets.specs.declared.members.Members.{Members}

pub members_yielded : (set : BitSet ℕ) (it : Members ℕ) → ListsMembers (λ n. n) set it → YieldsList (TakesLowest (λ n. n)) (λ x. x) it (members (λ n. n) set)
members_yielded set it lists =
    subst (λ (xs : List ℕ). YieldsList (TakesLowest (λ n. n)) (λ x. x) it xs) lists.list
    (YieldsList-from_shown (TakesLowest (λ n. n)) (λ x. x) (members_left (λ n. n)) (λ s t h. ap length h.0.0) (λ s x t h. h.0) it)
