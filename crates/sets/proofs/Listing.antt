-- The members of a set as a list: taking the lowest out takes the first one off, and the list has just the members.
use Rattle.std.proofs.Common.{◌≡◌, ℕ, zero, suc, ◌+◌, ◌-◌, ◌^◌, ◌<◌, ◌≤◌, Bool, true, false, cond, not, ◌&&◌, eqb, List, [], ◌∷◌, length, sym, refl, ap, subst, ◌∙◌, inl, inr, arith, Some, All, Contains, length-append, ◌↔◌}
use Rattle.std.proofs.lemmas.Bool.{cases_eq, eq-eqb, ne_eqb}
use Rattle.std.proofs.lemmas.List.{append-nil}
use Rattle.std.proofs.lemmas.List.Elements.{All-nil, All-cons, All-append, Contains-append_left, Contains-append_right}
use Rattle.std.proofs.Math.Nat.{zero-add, suc-add}
use Rattle.std.proofs.iter.runs.Sources.{from_front, as_is}
use Rattle.std.specs.Iterator.Runs.{YieldsInOrder}
use Rattle.sets.specs.Bits.{bit}
use Rattle.sets.specs.Counts.{Empty, Lowest, Popped, count}
use Rattle.sets.specs.Sets.{member}
use Rattle.sets.specs.Members.{members_below, members, members_left, TakesLowest, ListsMembers}
use Rattle.sets.specs.declared.bit_sets.BitSet.{BitSet}
use Rattle.sets.proofs.BitLaws.{bit_high, bit_below}
use Rattle.sets.proofs.Words.{below_pow}
use Rattle.sets.proofs.Counting.{not_lower, ones_count}
use Rattle.std.proofs.lemmas.Nat.{ones-le}
use lib.Count.{ones}

pub none_below : (g : ℕ → Bool) (n : ℕ) → ((i : ℕ) → i < n → g i ≡ false) → members_below g n ≡ []
unfolding members_below
none_below g zero e = refl
none_below g (suc n) e = rw (none_below g n (λ i l. e i (omega arith)), e n (omega arith))

-- a higher limit adds nothing where no member is that high
pub higher_limit : (g : ℕ → Bool) (m k : ℕ) → ((i : ℕ) → m ≤ i → g i ≡ false) → members_below g (k + m) ≡ members_below g m
unfolding members_below
higher_limit g m zero e = rw (zero-add m)
higher_limit g m (suc k) e = rw (suc-add k m, higher_limit g m k e, e (k + m) (omega arith)) (append-nil (members_below g m))

-- the lowest one comes first
pub lowest_first : (g h : ℕ → Bool) (a n : ℕ) → Lowest g a → ((i : ℕ) → h i ≡ (g i && not (eqb i a))) → a < n → members_below g n ≡ a ∷ members_below h n
unfolding members_below
lowest_first g h a zero low others l = absurd (omega arith)
lowest_first g h a (suc n) low others l =
    elim (cases_eq a n) [
      | inl s ↦
          let here : g n ≡ true = rw (← s) low.member in
          let gone : h n ≡ false = others n ∙ rw (here, eq-eqb n a (omega arith)) in
          let under : members_below g n ≡ [] = none_below g n (λ i m. not_lower g a i low (omega arith)) in
          let rest : members_below h n ≡ [] = none_below h n (λ i m. others i ∙ rw (not_lower g a i low (omega arith))) in
          rw (here, gone, under, rest, s)
      | inr d ↦
          let same : h n ≡ g n = others n ∙ kept (g n) (ne_eqb n a (λ e. d (sym e))) in
          rw (same, lowest_first g h a n low others (omega arith))
    ]
  where
    kept : (b : Bool) {c : Bool} → c ≡ false → (b && not c) ≡ b
    kept true e = rw e
    kept false e = refl

pub only_members : (g : ℕ → Bool) (n : ℕ) → All (λ i. g i ≡ true) (members_below g n)
unfolding members_below
only_members g zero = All-nil (λ i. g i ≡ true)
only_members g (suc n) = All-append (λ i. g i ≡ true) (members_below g n) (cond (g n) (n ∷ []) []) (only_members g n) (last (g n) refl)
  where
    last : (b : Bool) → g n ≡ b → All (λ i. g i ≡ true) (cond b (n ∷ []) [])
    last true e = All-cons (λ i. g i ≡ true) n [] e (All-nil (λ i. g i ≡ true))
    last false e = All-nil (λ i. g i ≡ true)

pub each_member : (g : ℕ → Bool) (n i : ℕ) → i < n → g i ≡ true → Contains (members_below g n) i
unfolding members_below
each_member g zero i l e = absurd (omega arith)
each_member g (suc n) i l e =
    elim (cases_eq i n) [
      | inl s ↦
          let here : g n ≡ true = rw (← s) e in
          let last : Contains (n ∷ []) i = (0, omega arith, sym s) in
          rw here (Contains-append_right (members_below g n) (n ∷ []) i last)
      | inr d ↦ Contains-append_left (members_below g n) (cond (g n) (n ∷ []) []) i (each_member g n i (omega arith) e)
    ]

pub how_many : (g : ℕ → Bool) (n : ℕ) → length (members_below g n) ≡ count g n
unfolding members_below count
how_many g zero = refl
how_many g (suc n) = length-append (members_below g n) (cond (g n) (n ∷ []) []) ∙ last (g n) (how_many g n)
  where
    last : (b : Bool) → length (members_below g n) ≡ count g n → length (members_below g n) + length (cond b (n ∷ []) []) ≡ cond b 1 0 + count g n
    last true e = omega arith
    last false e = omega arith

-- The members of the set of a word, of which `number` says the number.
module _ {W : Type 0} (number : W → ℕ) where
  pub listed_none : (s : BitSet W) → Empty (member number s) → members number s ≡ []
  unfolding members
  listed_none s e = none_below _ (number s.bits) (λ i l. e i)

  pub listed_first : (s t : BitSet W) (a : ℕ) → Popped (member number s) (Some a) (member number t) → number t.bits < number s.bits → members number s ≡ a ∷ members number t
  unfolding member members
  listed_first s t a p less =
      let gap : (number s.bits - number t.bits) + number t.bits ≡ number s.bits = omega arith in
      let same : members_below (bit (number t.bits)) (number s.bits) ≡ members_below (bit (number t.bits)) (number t.bits) = rw gap at (higher_limit (bit (number t.bits)) (number t.bits) (number s.bits - number t.bits) (λ i l. bit_high (number t.bits) (number t.bits) i (below_pow (number t.bits)) l)) in
      lowest_first _ _ a (number s.bits) p.0 p.1 (bit_below (number s.bits) (number s.bits) a (below_pow (number s.bits)) p.0.member) ∙ ap (λ (xs : List ℕ). a ∷ xs) same

  -- what a run of calls of `next` gives
  pub listed_runs : YieldsInOrder (TakesLowest number) (members_left number)
  listed_runs p s = as_is p (members number p.from.rest) (from_front (TakesLowest number) (λ x. x) (members_left number) (λ s t h. ap length h.0.0) (λ s x t h. h.0) p s)

  pub listed_only : (s : BitSet W) → All (λ i. member number s i ≡ true) (members number s)
  unfolding members
  listed_only s = only_members (member number s) (number s.bits)

  pub listed_each : (s : BitSet W) (i : ℕ) → member number s i ≡ true → Contains (members number s) i
  unfolding member members
  listed_each s i e = let n = number s.bits in each_member (bit n) n i (bit_below n n i (below_pow n) e) e

  pub listed : (s : BitSet W) → ListsMembers number s (record { rest = s })
  listed s = record { left = refl; list = refl; members_only = listed_only s; each_member = listed_each s; runs = listed_runs }

  -- what holds of each member of the set holds of each of the list, and back
  pub on_all : (s : BitSet W) (P : ℕ → Type 0) → All P (members number s) ↔ ((i : ℕ) → member number s i ≡ true → P i)
  on_all s P = (λ h i e. let k = listed_each s i e in subst P k.2 (h k.0 i k.1), λ h k d l. h _ (listed_only s k d l))

-- a set of w bits has no more members than bits, and the list has as many as are counted
pub counted_members : (w : ℕ) (s : BitSet ℕ) → s.bits < 2 ^ w → length (members (λ n. n) s) ≡ count (member (λ n. n) s) w
unfolding member members
counted_members w s h = let n = s.bits in how_many (bit n) n ∙ sym (ones_count n n (below_pow n)) ∙ ones_count w n h

pub few_members : (w : ℕ) (s : BitSet ℕ) → s.bits < 2 ^ w → length (members (λ n. n) s) ≤ w
unfolding member
few_members w s h = let e : length (members (λ n. n) s) ≡ ones s.bits = counted_members w s h ∙ sym (ones_count w s.bits h) in omega (arith, ones-le w s.bits h)
