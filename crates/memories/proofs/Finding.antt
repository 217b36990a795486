-- What a list of rows says of a state, by the first row of the state: what is recalled, and what a keep makes of the rows.
use Rattle.std.proofs.Common.{◌≡◌, ℕ, zero, suc, ◌-◌, ◌<◌, ◌≤◌, max, Bool, false, leb, ◌||◌, ◌==◌, ◌≢◌, List, [], ◌∷◌, ◌++◌, length, get_or, set, Some, None, Option, MatchOption, refl, sym, ap, subst, ◌∙◌, ◌⊎◌, inl, inr, arith, length-set}
use Rattle.std.specs.List.{position, position_or_len, refill}
use Rattle.std.proofs.lemmas.Bool.{cases_eq, cases_lt, or_from, and_left, eqb-true, eqb-false, eq-eqb, ne_eqb, lt-ltb, le-ltb}
use Rattle.std.proofs.lemmas.Grind.{common_steps}
use Rattle.std.proofs.lemmas.List.{get_or-set_same, get_or-set_other, get_or_default, length-append}
use Rattle.std.proofs.lemmas.List.Quantifiers.{all_pairs_push, position-Some}
use Rattle.std.proofs.lemmas.List.Sums.{fails_before_first, position_or_len_is}
use Rattle.memories.specs.Pairs.{recalls}
use Rattle.memories.specs.declared.row.Row.{Row}
use Rattle.memories.specs.Rows.{IsKept, IsListed, StatesDiffer, row, holds, among, is_of, keep_row}
use Rattle.memories.specs.Slots.{taken}
use Rattle.memories.specs.Recalling.{recalls_alike, recalls_nothing}
use Rattle.memories.proofs.Recalling.{recalls_taken}

abbrev pub no_row : Row
no_row = row 0 0

-- the state stands in row i and in none before it
pub record IsFirst (rows : List Row) (s i : ℕ) : Type 0 where
  pub within : i < length rows
  pub here : (get_or rows i no_row).state ≡ s
  pub before : (k : ℕ) → k < i → (get_or rows k no_row).state ≢ s

-- the state stands in no row
pub record IsAbsent (rows : List Row) (s : ℕ) : Type 0 where
  pub nowhere : (k : ℕ) → k < length rows → (get_or rows k no_row).state ≢ s

pub first_from_position : (rows : List Row) (s i : ℕ) → position (is_of s) rows ≡ Some i → IsFirst rows s i
first_from_position rows s i e =
    let p = position-Some (is_of s) rows i no_row e in
    record { within = p.0; here = eqb-true _ s p.1; before = λ k lt. eqb-false _ s (p.2 k lt) }

pub absent_from_position : (rows : List Row) (s : ℕ) → position (is_of s) rows ≡ None → IsAbsent rows s
absent_from_position rows s e = elim (cases_lt (position_or_len (is_of s) rows) (length rows)) [
  | inl lt ↦ let found = rw (lt-ltb (position_or_len (is_of s) rows) (length rows) lt) at e in absurd cc
  | inr le ↦ record { nowhere = λ k lt. eqb-false _ s (fails_before_first (is_of s) rows k no_row (omega arith)) }
]

pub position-first : (rows : List Row) (s i : ℕ) → IsFirst rows s i → position (is_of s) rows ≡ Some i
position-first rows s i first =
    let e = position_or_len_is (is_of s) rows i no_row (omega (arith, first.within)) (λ k lt. ne_eqb _ s (first.before k lt)) (λ _. eq-eqb _ s first.here) in
    rw (e, lt-ltb i (length rows) first.within)

pub position-absent : (rows : List Row) (s : ℕ) → IsAbsent rows s → position (is_of s) rows ≡ None
position-absent rows s absent =
    let e = position_or_len_is (is_of s) rows (length rows) no_row (omega arith) (λ k lt. ne_eqb _ s (absent.nowhere k lt)) (λ lt. absurd (omega arith)) in
    rw (e, le-ltb (length rows) (length rows) (omega arith))

-- the rows without their first
later_absent : (r : Row) (rows : List Row) (s : ℕ) → IsAbsent (r ∷ rows) s → IsAbsent rows s
later_absent r rows s absent = record { nowhere = λ k lt. absent.nowhere (suc k) (omega arith) }

later_first : (r : Row) (rows : List Row) (s i : ℕ) → IsFirst (r ∷ rows) s (suc i) → IsFirst rows s i
later_first r rows s i first = record { within = omega (arith, first.within); here = first.here; before = λ k lt. first.before (suc k) (omega arith) }

-- a write of a row that keeps its state leaves each state
pub state-set : (rows : List Row) (i : ℕ) (r : Row) → i < length rows → r.state ≡ (get_or rows i no_row).state → (d : Row) (k : ℕ) → (get_or (set rows i r) k d).state ≡ (get_or rows k d).state
state-set rows i r lt e d k = elim (cases_eq k i) [
  | inl q ↦ subst (λ (j : ℕ). (get_or (set rows i r) j d).state ≡ (get_or rows j d).state) (sym q)
      (ap (λ (x : Row). x.state) (get_or-set_same rows i r d lt) ∙ e ∙ ap (λ (x : Row). x.state) (get_or_default rows i no_row d lt))
  | inr other ↦ ap (λ (x : Row). x.state) (get_or-set_other rows i k r d other)
]

-- the pairs of a state are those of its row
among-absent : (rows : List Row) (s m : ℕ) → IsAbsent rows s → among rows s m ≡ false
unfolding among
among-absent [] s m absent = refl
among-absent (r ∷ rows) s m absent =
    or_from (holds r s m) (among rows s m) (and_left (r.state == s) (r.left == m) (ne_eqb r.state s (absent.nowhere 0 (omega arith)))) (among-absent rows s m (later_absent r rows s absent))

among-first : (rows : List Row) (s m i : ℕ) → StatesDiffer rows → IsFirst rows s i → among rows s m ≡ holds (get_or rows i no_row) s m
unfolding among
among-first [] s m i apart first = absurd (omega (arith, first.within))
among-first (r ∷ rows) s m zero apart first =
    let others : IsAbsent rows s = record { nowhere = λ k lt e. apart 0 (suc k) no_row (omega arith) (omega arith) (first.here ∙ sym e) } in
    rw (among-absent rows s m others) (or_false (holds r s m))
  where
    or_false : (b : Bool) → (b || false) ≡ b
    or_false false = refl
    or_false _ = refl
among-first (r ∷ rows) s m (suc i) apart first =
    rw (ne_eqb r.state s (first.before 0 (omega arith))) (among-first rows s m i (λ j k d lt within. apart (suc j) (suc k) d (omega arith) (omega arith)) (later_first r rows s i first))

pub recalls-absent : (rows : List Row) (s n : ℕ) → IsAbsent rows s → recalls (among rows) s n ≡ false
recalls-absent rows s n absent = recalls_nothing (among rows) s n (λ m. among-absent rows s m absent)

pub recalls-first : (rows : List Row) (s n i : ℕ) → StatesDiffer rows → IsFirst rows s i → (get_or rows i no_row).left < 256 → recalls (among rows) s n ≡ leb n (get_or rows i no_row).left
recalls-first rows s n i apart first byte =
    recalls_alike (among rows) (taken (Some (get_or rows i no_row))) s n (λ m. among-first rows s m i apart first) ∙ recalls_taken (get_or rows i no_row) s n byte first.here

-- an answer that the one row of the state decides
pub recalls-position : (rows : List Row) (s n : ℕ) (answer : Bool) (Q : ℕ → Type 0) → StatesDiffer rows
    → ((i : ℕ) → Q i → (answer ≡ leb n (get_or rows i no_row).left) × ((get_or rows i no_row).left < 256))
    → MatchOption (position (is_of s) rows) (answer ≡ false) Q → answer ≡ recalls (among rows) s n
recalls-position rows s n answer Q apart from m = go (position (is_of s) rows) refl m
  where
    go : (at : Option ℕ) → position (is_of s) rows ≡ at → MatchOption at (answer ≡ false) Q → answer ≡ recalls (among rows) s n
    go None e none = none ∙ sym (recalls-absent rows s n (absent_from_position rows s e))
    go (Some i) e some = let q = from i some in q.0 ∙ sym (recalls-first rows s n i apart (first_from_position rows s i e) q.1)

-- a keep where the state stands raises the left in its row
pub keep_row-first : (room : ℕ) (rows : List Row) (s n i : ℕ) → IsFirst rows s i → keep_row room rows s n ≡ set rows i (row s (max (get_or rows i no_row).left n))
unfolding keep_row
keep_row-first room [] s n i first = absurd (omega (arith, first.within))
keep_row-first room (r ∷ rows) s n zero first = rw (eq-eqb r.state s first.here)
keep_row-first room (r ∷ rows) s n (suc i) first =
    rw (ne_eqb r.state s (first.before 0 (omega arith))) (ap (λ (rest : List Row). r ∷ rest) (keep_row-first (room - 1) rows s n i (later_first r rows s i first)))

-- a keep of a new state adds a row where there is room
pub keep_row-room : (room : ℕ) (rows : List Row) (s n : ℕ) → IsAbsent rows s → length rows < room → keep_row room rows s n ≡ rows ++ row s n ∷ []
unfolding keep_row
keep_row-room room [] s n absent lt = rw (lt-ltb 0 room lt)
keep_row-room room (r ∷ rows) s n absent lt =
    rw (ne_eqb r.state s (absent.nowhere 0 (omega arith))) (ap (λ (rest : List Row). r ∷ rest) (keep_row-room (room - 1) rows s n (later_absent r rows s absent) (omega arith)))

pub keep_row-full : (room : ℕ) (rows : List Row) (s n : ℕ) → IsAbsent rows s → room ≤ length rows → keep_row room rows s n ≡ rows
unfolding keep_row
keep_row-full room [] s n absent le = rw (le-ltb 0 room le)
keep_row-full room (r ∷ rows) s n absent le =
    rw (ne_eqb r.state s (absent.nowhere 0 (omega arith))) (ap (λ (rest : List Row). r ∷ rest) (keep_row-full (room - 1) rows s n (later_absent r rows s absent) (omega arith)))

-- a row that keeps its state, and a new state after the others
pub differ-set : (rows : List Row) (i : ℕ) (r : Row) → i < length rows → r.state ≡ (get_or rows i no_row).state → StatesDiffer rows → StatesDiffer (set rows i r)
differ-set rows i r lt e apart = λ j k d before below q.
    let within : k < length rows = omega (arith, length-set rows i r) in
    apart j k d before within (sym (state-set rows i r lt e d j) ∙ q ∙ state-set rows i r lt e d k)

pub differ-push : (rows : List Row) (r : Row) → IsAbsent rows r.state → StatesDiffer rows → StatesDiffer (rows ++ r ∷ [])
differ-push rows r absent apart =
    all_pairs_push (λ (a b : Row). a.state ≢ b.state) rows r apart (λ k d lt e. absent.nowhere k lt (ap (λ (x : Row). x.state) (get_or_default rows k no_row d lt) ∙ e))

-- a keep leaves what every list memory has
pub listed-keep_row : (rows : List Row) (s n : ℕ) → IsListed rows → IsListed (keep_row 256 rows s n)
listed-keep_row rows s n l = go (position (is_of s) rows) refl
  where
    added : IsAbsent rows s → (length rows < 256) ⊎ (256 ≤ length rows) → IsListed (keep_row 256 rows s n)
    added absent (inl room) = rw (keep_row-room 256 rows s n absent room) (record { few = omega (arith, length-append rows (row s n ∷ [])); apart = differ-push rows (row s n) absent l.apart })
    added absent (inr full) = rw (keep_row-full 256 rows s n absent full) l

    go : (at : Option ℕ) → position (is_of s) rows ≡ at → IsListed (keep_row 256 rows s n)
    go None e = added (absent_from_position rows s e) (cases_lt (length rows) 256)
    go (Some i) e =
        let first = first_from_position rows s i e in
        let r = row s (max (get_or rows i no_row).left n) in
        rw (keep_row-first 256 rows s n i first) (record { few = omega (arith, length-set rows i r, l.few); apart = differ-set rows i r first.within (sym first.here) l.apart })

-- so a keep of such rows did what it says, and they are such rows still
pub is_kept : (old new : List Row) (s n : ℕ) → length old ≤ 256 → StatesDiffer old → new ≡ keep_row 256 old s n → IsKept old s n new
is_kept old new s n few apart e = record { value = e; listed = subst IsListed (sym e) (listed-keep_row old s n (record { few = few; apart = apart })) }

-- a slice in which one row was written is written back whole
pub refill_same : (rows : List Row) (i : ℕ) (r : Row) → refill (length rows) rows (set rows i r) ≡ set rows i r
refill_same rows i r = grind (arith, common_steps)
