-- Entries with one more on top, and what settling makes of them: the pairs on top are kept in their order, and what is below
-- them stays, or the round is over.
use Rattle.std.proofs.Common.{◌≡◌, ℕ, eqb, List, [], ◌∷◌, ◌++◌, length, sym, refl, ap, ◌∙◌, append-nil, append_assoc, arith, length-append}
use Rattle.tasks.specs.Meaning.{Meaning}
use Rattle.search.specs.declared.entry.Entry as stored
use Rattle.search.specs.Machines.{Entry}
use Rattle.search.specs.Machines.Entry.{part, pair}
use Rattle.search.specs.Machines.Stage.{unfinished}
use Rattle.search.specs.Applied.{left_of_round}
use Rattle.search.specs.Calls.{Keeps}
use Rattle.search.specs.Calls.Keeps.{no_pair, one_pair}
use Rattle.search.specs.Steps.{over, settle}
use Rattle.search.specs.Entries.{below_pairs, entries_of, entry_of, pairs_on_top}

pub entries_push : (es : List stored.Entry) (e : stored.Entry) → entries_of (es ++ e ∷ []) ≡ entry_of e ∷ entries_of es
entries_push [] e = refl
entries_push (x ∷ es) e = ap (λ l. l ++ entry_of x ∷ []) (entries_push es e)

-- as many entries are open as are stored
pub entries_length : (es : List stored.Entry) → length (entries_of es) ≡ length es
entries_length [] = refl
entries_length (e ∷ es) = let ih = entries_length es in omega (arith, length-append (entries_of es) (entry_of e ∷ []), ih)

-- pairs are kept one after the other, the last at the end
pub keeps_push : {X : Type 0} (keeps : X → ℕ → ℕ → X → Type 0) (ks : List (ℕ × ℕ)) (x y z : X) (s n : ℕ) → Keeps X keeps ks x y → keeps y s n z → Keeps X keeps (ks ++ (s, n) ∷ []) x z
keeps_push keeps _ x _ z s n no_pair k = one_pair k no_pair
keeps_push keeps _ x y z s n (one_pair {y = w} h rest) k = one_pair h (keeps_push keeps _ w y z s n rest k)

-- where no pair is on top nothing is above the first part
pub no_pairs : (es : List Entry) → pairs_on_top es ≡ [] → below_pairs es ≡ es
no_pairs [] e = refl
no_pairs (part p from ∷ es) e = refl
no_pairs (pair s n ∷ es) e = absurd (let z : ◌≡◌ {A = ℕ} 0 1 = cc in omega arith)

settle_kept : (m : Meaning) (bound k : ℕ) (kept : List (ℕ × ℕ)) (es : List Entry)
    → settle m bound k kept es ≡ record { machine = left_of_round m bound k (below_pairs es); keeps = kept ++ pairs_on_top es }
unfolding settle
settle_kept m bound k kept [] = ap (λ ks. record { machine = over m bound k (eqb k bound); keeps = ks }) (sym (append-nil kept))
settle_kept m bound k kept (part p from ∷ es) =
    ap (λ ks. record { machine = record { stage = unfinished; bound = bound; round = k; entries = part p from ∷ es }; keeps = ks }) (sym (append-nil kept))
settle_kept m bound k kept (pair s n ∷ es) =
    settle_kept m bound k (kept ++ (s, n) ∷ []) es ∙ ap (λ ks. record { machine = left_of_round m bound k (below_pairs es); keeps = ks }) (append_assoc kept ((s, n) ∷ []) (pairs_on_top es))

pub settle_is : (m : Meaning) (bound k : ℕ) (es : List Entry) → settle m bound k [] es ≡ record { machine = left_of_round m bound k (below_pairs es); keeps = pairs_on_top es }
settle_is m bound k es = settle_kept m bound k [] es
