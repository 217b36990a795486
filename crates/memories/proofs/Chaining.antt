-- Chains of rows: a chain has each row of its slot, so a state that is not met on the way from the head stands nowhere.
-- A new row goes in front of its chain; raising a left changes no state and so no chain.
use Rattle.std.proofs.Common.{◌≡◌, ℕ, zero, suc, ◌+◌, ◌<◌, ◌≤◌, ◌≢◌, List, [], ◌∷◌, ◌++◌, length, get_or, set, map, Some, None, Option, replicate, refl, sym, ap, ◌∙◌, subst, inl, inr, arith, length-set}
use Rattle.std.proofs.lemmas.List.{get_or-set_same, get_or-set_other, get_or_append_left, get_or_push, get_or-replicate, length-replicate, length-append}
use Rattle.std.proofs.lemmas.List.FromFn.{length-map-range_with_len, get_or-map-range_with_len}
use Rattle.std.specs.List.{range_with_len}
use Rattle.std.proofs.lemmas.Bool.{cases_eq, cases_lt, cases_order, eq-eqb, ne_eqb}
use Rattle.memories.specs.declared.row.Row.{Row}
use Rattle.memories.specs.Slots.{slot_of}
use Rattle.memories.specs.Rows.{IsListed}
use Rattle.memories.specs.Chains.{IsChained, state_at, newest_of}
use Rattle.memories.specs.Remembered.{IsRemembered}
use Rattle.memories.proofs.Finding.{IsFirst, IsAbsent, no_row, state-set, differ-set, differ-push}

-- row i is the newest of the slot among the first n
record IsNewest (rows : List Row) (slot n i : ℕ) : Type 0 where
  within : i < n
  owns : slot_of (state_at rows i) ≡ slot
  last : (k : ℕ) → i < k → k < n → slot_of (state_at rows k) ≢ slot

newest-Some : (rows : List Row) (slot n i : ℕ) → newest_of rows slot n ≡ Some i → IsNewest rows slot n i
unfolding newest_of
newest-Some rows slot zero i e = absurd cc
newest-Some rows slot (suc n) i e = elim (cases_eq (slot_of (state_at rows n)) slot) [
  | inl here ↦
      let top = rw (eq-eqb (slot_of (state_at rows n)) slot here) at e in
      let q : n ≡ i = cc in
      record { within = omega arith; owns = subst (λ (k : ℕ). slot_of (state_at rows k) ≡ slot) q here; last = λ k above below. absurd (omega arith) }
  | inr other ↦
      let w = newest-Some rows slot n i (rw (ne_eqb (slot_of (state_at rows n)) slot other) at e) in
      record {
        within = omega (arith, w.within);
        owns = w.owns;
        last = λ k above below. elim (cases_eq k n) [ inl q ↦ subst (λ (j : ℕ). slot_of (state_at rows j) ≢ slot) (sym q) other | inr ne ↦ w.last k above (omega arith) ];
      }
]

newest-None : (rows : List Row) (slot n : ℕ) → newest_of rows slot n ≡ None → (k : ℕ) → k < n → slot_of (state_at rows k) ≢ slot
unfolding newest_of
newest-None rows slot zero e k lt = absurd (omega arith)
newest-None rows slot (suc n) e k lt = elim (cases_eq (slot_of (state_at rows n)) slot) [
  | inl here ↦ let top = rw (eq-eqb (slot_of (state_at rows n)) slot here) at e in absurd cc
  | inr other ↦ elim (cases_eq k n) [
    | inl q ↦ subst (λ (j : ℕ). slot_of (state_at rows j) ≢ slot) (sym q) other
    | inr ne ↦ newest-None rows slot n (rw (ne_eqb (slot_of (state_at rows n)) slot other) at e) k (omega arith)
  ]
]

-- only the states of the first n rows matter
newest-same : (old new : List Row) (slot n : ℕ) → ((k : ℕ) → k < n → state_at new k ≡ state_at old k) → newest_of new slot n ≡ newest_of old slot n
unfolding newest_of
newest-same old new slot zero same = refl
newest-same old new slot (suc n) same = rw (same n (omega arith), newest-same old new slot n (λ k lt. same k (omega arith)))

-- no row
pub chained_none : (links : List (Option ℕ)) → length links ≡ 256 → IsChained [] (replicate 256 None) links
unfolding newest_of
chained_none links tall = record {
  wide = length-replicate {A = Option ℕ} 256 None;
  tall = tall;
  newest = λ slot lt. get_or-replicate 256 slot None None lt;
  older = λ i lt. absurd (omega arith);
  apart = λ i j d lt within. absurd (omega arith);
}

-- the number of rows up to a row, and 0 where there is none
abbrev pub up_to : Option ℕ → ℕ
up_to None = 0
up_to (Some i) = i + 1

-- looking for a state: the rows that were passed do not have it, and the next to look at is the newest of its slot among the others
pub record Walks (rows : List Row) (s : ℕ) (next : Option ℕ) : Type 0 where
  pub left : ℕ
  pub within : left ≤ length rows
  pub newest : next ≡ newest_of rows (slot_of s) left
  pub passed : (k : ℕ) → left ≤ k → k < length rows → state_at rows k ≢ s

module _ (rows : List Row) (heads links : List (Option ℕ)) (c : IsChained rows heads links) (s : ℕ) where
  pub walks_from_head : slot_of s < 256 → Walks rows s (get_or heads (slot_of s) None)
  walks_from_head lt = record { left = length rows; within = omega arith; newest = c.newest (slot_of s) lt; passed = λ k ge lt. absurd (omega arith) }

  pub walks_within : (i : ℕ) → Walks rows s (Some i) → i < length rows
  walks_within i w = let at = newest-Some rows (slot_of s) w.left i (sym w.newest) in omega (arith, at.within, w.within)

  pub walks_on : (i : ℕ) → Walks rows s (Some i) → state_at rows i ≢ s → Walks rows s (get_or links i None)
  walks_on i w other =
      let at = newest-Some rows (slot_of s) w.left i (sym w.newest) in
      let inside = walks_within i w in
      record {
        left = i;
        within = omega arith;
        newest = c.older i inside ∙ ap (λ (slot : ℕ). newest_of rows slot i) at.owns;
        passed = λ k ge lt. elim (cases_order k i) [
          | inl q ↦ subst (λ (j : ℕ). state_at rows j ≢ s) (sym q) other
          | inr (inl before) ↦ absurd (omega arith)
          | inr (inr after) ↦ elim (cases_lt k w.left) [ inl below ↦ λ e. at.last k after below (ap slot_of e) | inr past ↦ w.passed k past lt ]
        ];
      }

  pub walks_to_first : (i : ℕ) → Walks rows s (Some i) → state_at rows i ≡ s → IsFirst rows s i
  walks_to_first i w here = record {
    within = walks_within i w;
    here = here;
    before = λ k lt e. c.apart k i no_row lt (walks_within i w) (e ∙ sym here);
  }

  pub walks_to_end : Walks rows s None → IsAbsent rows s
  walks_to_end w = record {
    nowhere = λ k lt. elim (cases_lt k w.left) [ inl below ↦ λ e. newest-None rows (slot_of s) w.left (sym w.newest) k below (ap slot_of e) | inr past ↦ w.passed k past lt ];
  }

  -- each next row is older
  pub walks_down : (i : ℕ) → Walks rows s (Some i) → up_to (get_or links i None) < i + 1
  walks_down i w = go (get_or links i None) (c.older i (walks_within i w))
    where
      go : (next : Option ℕ) → next ≡ newest_of rows (slot_of (state_at rows i)) i → up_to next < i + 1
      go None e = omega arith
      go (Some j) e = let older = newest-Some rows (slot_of (state_at rows i)) i j (sym e) in omega (arith, older.within)

-- a row keeps its state
pub chained_raised : (rows : List Row) (heads links : List (Option ℕ)) (i : ℕ) (r : Row) → i < length rows → r.state ≡ state_at rows i → IsChained rows heads links → IsChained (set rows i r) heads links
chained_raised rows heads links i r lt e c =
    let many : length (set rows i r) ≡ length rows = length-set rows i r in
    let same = state-set rows i r lt e no_row in
    record {
      wide = c.wide;
      tall = c.tall;
      newest = λ slot below. c.newest slot below ∙ sym (rw many (newest-same rows (set rows i r) slot (length rows) (λ k _. same k)));
      older = λ j below. rw (same j) (c.older j (omega arith) ∙ sym (newest-same rows (set rows i r) (slot_of (state_at rows j)) j (λ k _. same k)));
      apart = differ-set rows i r lt e c.apart;
    }

-- a row is added
pub chained_added : (rows : List Row) (heads links : List (Option ℕ)) (r : Row) → slot_of r.state < 256 → length rows < 256 → IsAbsent rows r.state → IsChained rows heads links
    → IsChained (rows ++ r ∷ []) (set heads (slot_of r.state) (Some (length rows))) (set links (length rows) (get_or heads (slot_of r.state) None))
unfolding newest_of
chained_added rows heads links r below room absent c =
    let many : length (rows ++ r ∷ []) ≡ suc (length rows) = omega (arith, length-append rows (r ∷ [])) in
    record {
      wide = simp length-set c.wide;
      tall = simp length-set c.tall;
      newest = λ slot lt. rw (many, last) (elim (cases_eq (slot_of r.state) slot) [
        | inl q ↦ rw (eq-eqb (slot_of r.state) slot q, ← q) (get_or-set_same heads (slot_of r.state) (Some (length rows)) None (omega (arith, c.wide)))
        | inr other ↦ rw (ne_eqb (slot_of r.state) slot other)
            (get_or-set_other heads (slot_of r.state) slot (Some (length rows)) None (λ e. other (sym e)) ∙ c.newest slot lt ∙ sym (old slot (length rows) (omega arith)))
      ]);
      older = λ i lt. elim (cases_lt i (length rows)) [
        | inl before ↦ rw (at i before)
            (get_or-set_other links (length rows) i (get_or heads (slot_of r.state) None) None (omega arith) ∙ c.older i before ∙ sym (old (slot_of (state_at rows i)) i (omega arith)))
        | inr past ↦
            let q : length rows ≡ i = omega arith in
            subst (λ (j : ℕ). get_or (set links (length rows) (get_or heads (slot_of r.state) None)) j None ≡ newest_of (rows ++ r ∷ []) (slot_of (state_at (rows ++ r ∷ []) j)) j) q
            (rw last (get_or-set_same links (length rows) (get_or heads (slot_of r.state) None) None (omega (arith, c.tall)) ∙ c.newest (slot_of r.state) below ∙ sym (old (slot_of r.state) (length rows) (omega arith))))
      ];
      apart = differ-push rows r absent c.apart;
    }
  where
    last : state_at (rows ++ r ∷ []) (length rows) ≡ r.state
    last = ap (λ (x : Row). x.state) (get_or_push rows r no_row (length rows) refl)

    at : (k : ℕ) → k < length rows → state_at (rows ++ r ∷ []) k ≡ state_at rows k
    at k lt = ap (λ (x : Row). x.state) (get_or_append_left rows (r ∷ []) no_row k lt)

    old : (slot n : ℕ) → n ≤ length rows → newest_of (rows ++ r ∷ []) slot n ≡ newest_of rows slot n
    old slot n le = newest-same rows (rows ++ r ∷ []) slot n (λ k lt. at k (omega arith))

-- rows of a list are in a memory: each head and each link is the newest row of its slot
pub remembered : (rows : List Row) → IsListed rows → IsRemembered rows
remembered rows l = record {
  memory = record { rows = record { items = rows }; heads = map newest (range_with_len 0 256); links = map older (range_with_len 0 256) };
  chained = record {
    wide = length-map-range_with_len newest 0 256;
    tall = length-map-range_with_len older 0 256;
    newest = λ slot lt. get_or-map-range_with_len newest 0 256 slot slot None lt (omega arith);
    older = λ i lt. get_or-map-range_with_len older 0 256 i i None (omega (arith, l.few)) (omega arith);
    apart = l.apart;
  };
  few = l.few;
  shown = refl;
}
  where
    newest : ℕ → Option ℕ
    newest slot = newest_of rows slot (length rows)

    older : ℕ → Option ℕ
    older i = newest_of rows (slot_of (state_at rows i)) i
