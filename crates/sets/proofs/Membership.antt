-- Sets with the same members are the same set.
use Rattle.std.proofs.Common.{◌≡◌, ℕ, ◌^◌, ◌<◌, Bool, true, false, ap, ap₂}
use Rattle.sets.specs.Sets.{member, has}
use Rattle.sets.specs.declared.bit_sets.BitSet.{BitSet}
use Rattle.sets.specs.declared.literals.Literals.{Literals}
use Rattle.sets.proofs.BitLaws.{bit_ext, bit_below}

pub sets_same : (w : ℕ) (s t : BitSet ℕ) → s.bits < 2 ^ w → t.bits < 2 ^ w → ((i : ℕ) → member (λ n. n) s i ≡ member (λ n. n) t i) → s ≡ t
unfolding member
sets_same w s t h k e = ap (λ (n : ℕ). record { bits = n }) (bit_ext w s.bits t.bits h k (λ i l. e i))

pub literals_same : (s t : Literals) → s.trues.bits < 2 ^ 64 → s.falses.bits < 2 ^ 64 → t.trues.bits < 2 ^ 64 → t.falses.bits < 2 ^ 64 → ((f : ℕ) (v : Bool) → has s f v ≡ has t f v) → s ≡ t
unfolding has
literals_same s t h k m n e = ap₂ (λ (x y : BitSet ℕ). record { trues = x; falses = y }) (sets_same 64 s.trues t.trues h m (λ i. e i true)) (sets_same 64 s.falses t.falses k n (λ i. e i false))

-- a member is below the width
pub member_below : (w : ℕ) (s : BitSet ℕ) (i : ℕ) → s.bits < 2 ^ w → member (λ n. n) s i ≡ true → i < w
unfolding member
member_below w s i h e = bit_below w s.bits i h e

-- what holds of both values holds of each
pub both : (P : Bool → Type 0) → P true → P false → (v : Bool) → P v
both P t f true = t
both P t f false = f
