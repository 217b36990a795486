-- What a set has in it, as a list.
use Rattle.std.specs.Prelude.{◌≡◌, ℕ, zero, suc, Bool, cond, List, [], ◌∷◌, ◌++◌, Option, true, All, Contains}
use Rattle.std.specs.Iterator.{YieldsFirst}
use Rattle.std.specs.Iterator.Runs.{YieldsInOrder}
use Rattle.sets.specs.Counts.{Popped}
use Rattle.sets.specs.Sets.{member}
use Rattle.sets.specs.declared.bit_sets.BitSet.{BitSet}
use Rattle.sets.specs.declared.members.Members.{Members}

-- The numbers below n that are in a set, which is given by its test, from the lowest up.
unfoldable pub members_below : (ℕ → Bool) → ℕ → List ℕ
members_below g zero = []
members_below g (suc n) = members_below g n ++ cond (g n) (n ∷ []) []

-- The members of a set, from the lowest up. Each of them is below the number that the set's word is.
unfoldable pub members : {W : Type 0} → (W → ℕ) → BitSet W → List ℕ
members number set = members_below (member number set) (number set.bits)

-- What an iterator over a set has left, from the lowest up.
abbrev pub members_left : {W : Type 0} → (W → ℕ) → Members W → List ℕ
members_left number it = members number it.rest

-- A call of `next` took the lowest member out of what was left, and with it the first off the list of what was left.
abbrev pub TakesLowest : {W : Type 0} → (W → ℕ) → Members W → Option ℕ → Members W → Type 0
TakesLowest number s r t = YieldsFirst (members_left number) s r t × Popped (member number s.rest) r (member number t.rest)

-- The iterator has a set's members left, and gives them in order.
pub record ListsMembers {W : Type 0} (number : W → ℕ) (set : BitSet W) (it : Members W) : Type 0 where
  pub left : it.rest ≡ set
  pub list : members_left number it ≡ members number set
  pub members_only : All (λ i. member number set i ≡ true) (members number set)
  pub each_member : (i : ℕ) → member number set i ≡ true → Contains (members number set) i
  pub runs : YieldsInOrder (TakesLowest number) (members_left number)
