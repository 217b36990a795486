-- What was asked of a part holds of its halves: their levels up to the split are one state each, the same, and a pair that is kept
-- meanwhile has less left than they ask for. What was consistent of the part is consistent of its halves but at the split.
use Rattle.std.proofs.Common.{◌≡◌, ℕ, zero, suc, ◌+◌, ◌-◌, ◌<◌, ◌≤◌, min, Bool, true, false, cond, not, ◌&&◌, ◌||◌, eqb, ltb, leb, ◌⊎◌, List, [], ◌∷◌, ◌++◌, length, get_or, Some, None, Option, sym, refl, ap, ◌∙◌, subst, inl, inr, arith}
use mathlib.Core.Path.{fun_ext}
use Rattle.std.proofs.lemmas.Bool.{cases_Bool, both_ways, true≢false, and_parts, and_from, or_cases, or_parts, or_from, lt-ltb}
use Rattle.tasks.specs.Meaning.{Meaning, Lawful}
use Rattle.tasks.proofs.Packing.{packed_same}
use Rattle.filter.specs.Structures.{Structure, trimmed}
use Rattle.filter.specs.Rules.{stage, Settled}
use Rattle.filter.specs.Filtering.{Consistent, ConsistentStage, Largest}
use Rattle.filter.specs.Filtering.Filtered.{kept, wiped}
use Rattle.filter.specs.Plans.{Only, Fixes, state_of}
use Rattle.filter.proofs.Values.{never, opposed, Effect, effect}
use Rattle.filter.proofs.Values.Effect.{makes, spoils, spares}
use Rattle.filter.proofs.Uniqueness.{both_follow, same_structure}
use Rattle.memories.specs.Pairs.{Pairs, Kept, recalls}
use Rattle.memories.specs.Recalling.{recalled, recalls_yes}
use Rattle.search.specs.Machines.{Entry, Made}
use Rattle.search.specs.Machines.Entry.{part, pair}
use Rattle.search.specs.Machines.Stage.{unfinished}
use Rattle.search.specs.Steps.{put_up, over, settle, plan_from, half, earlier, below_halves, split}
use Rattle.search.specs.Calls.{Keeps}
use Rattle.search.specs.Calls.Keeps.{no_pair, one_pair}
use Rattle.search.specs.Depths.{Shallow}
use Rattle.search.specs.Skips.{BeginsInOneState, LessLeft, AllMoreLeft, Ordered, Answered, AnsweredHalf, Fresh, ACallBeginsWithNoAnswers, EveryStepKeepsTheAnswers, OnlyLaterLevelsNeedAsking}
use Rattle.search.proofs.Moves.{Widens, Said, Move, moves}
use Rattle.search.proofs.Moves.Move.{finds, splits, drops}
use Rattle.search.proofs.Halves.{round_same, step_inside, action_inside, half_left, half_other}
use Rattle.search.proofs.Leading.{plan_long, fixes}
use Rattle.search.proofs.Ordering.{filtered_one}
use Rattle.search.proofs.Stacking.{popped, settle_keeps}

-- each level after single steps is one state
one_state : (m : Meaning) → Lawful m → (q : Structure) → Consistent m q → BeginsInOneState q → (way : List ℕ) → length way ≤ q.round → Fixes q way
    → (l f : ℕ) → l ≤ length way → f < m.facts → q.possible l f true ≡ true → q.possible l f false ≡ true → ⊥
one_state m lw q co b way le fx zero f ll lt x y = b f x y
one_state m lw q co b way le fx (suc l) f ll lt x y = go (λ u v. one_state m lw q co b way le fx l f (omega arith) lt u v) (effect (m.makes (get_or way l 0) f) (lw.makes_three (get_or way l 0) f) true true)
  where
    o : Only q l (get_or way l 0)
    o = fx l (omega arith)

    st : Settled m (stage q l)
    st = co.closed l (omega arith)

    go : (q.possible l f true ≡ true → q.possible l f false ≡ true → ⊥) → Effect (m.makes (get_or way l 0) f) true true → ⊥
    go ih (makes z p) = st.opposite_always_made f false lt y (λ a on. ap (λ n. m.makes n f) (o.alone a on) ∙ z ∙ sym (opposed false))
    go ih (spoils z p) = st.opposite_always_made f true lt x (λ a on. ap (λ n. m.makes n f) (o.alone a on) ∙ z)
    go ih (spares u v p) = elim (cases_Bool (q.possible l f true)) [
      | inl on ↦ elim (cases_Bool (q.possible l f false)) [
        | inl off ↦ ih on off
        | inr e ↦ st.neither_possible_before_nor_made f false lt y (e, λ a there z. v (ap (λ n. m.makes n f) (sym (o.alone a there)) ∙ z ∙ sym (opposed true)))
      ]
      | inr e ↦ st.neither_possible_before_nor_made f true lt x (e, λ a there z. u (ap (λ n. m.makes n f) (sym (o.alone a there)) ∙ z))
    ]

module _ (m : Meaning) (p q : Structure) (large : Largest m p q) (i : ℕ) (d : ℕ → Bool) where
  half_trim : half m q i d ≡ trimmed m (half m q i d)
  unfolding half
  half_trim = same_structure (half m q i d) (trimmed m (half m q i d)) refl
      (λ j a. both_follow _ _
      (λ e. let was = half_left m q i d j a e in
      and_from _ _ (and_from _ _ (lt-ltb j q.round (step_inside m p q large j a was)) (lt-ltb a m.actions (action_inside m p q large j a was))) e)
      (λ e. (and_parts (ltb j q.round && ltb a m.actions) _ e).1))
      (λ j f v. ap (λ (x : Structure). x.possible j f v) large.trim)

  half_consistent : (l : ℕ) → l < q.round → (l ≡ i → ⊥) → ConsistentStage m (stage (half m q i d) l)
  unfolding half
  half_consistent l lt ne =
      let co = large.consistent in
      let whole : ConsistentStage m (stage q l) = record {
        settled = co.closed l lt;
        action = co.action l lt;
        before = λ f below. co.value l f (omega arith) below;
        after = λ f below. co.value (suc l) f (omega arith) below;
      } in
      subst (λ (g : ℕ → Bool). ConsistentStage m (record { before = q.possible l; left = g; after = q.possible (suc l) })) (fun_ext (λ a. sym (half_other m q i d l a ne))) whole

-- so what was answered of q holds of its halves
answered_half : (m : Meaning) → Lawful m → (hopeless : ℕ → ℕ → Bool) (P : Pairs) (k : ℕ) (p q : Structure) (i : ℕ) → p.round ≡ k → Widens m k p q i → ((l : ℕ) → l ≤ i → Said m (recalls P) hopeless k q l false)
    → BeginsInOneState p → (d : ℕ → Bool) → Answered m hopeless P k (half m q i d) i
unfolding half
answered_half m lw hopeless P k p q i is w quiet one d =
    let large = w.filtered in
    let rounds : q.round ≡ k = round_same m p q large ∙ is in
    let s = w.inside in
    let long = plan_long m q i 0 in
    record {
      quiet = quiet;
      single = λ l f le lt. one_state m lw q large.consistent (filtered_one m p q large one) (plan_from m q i 0) (omega arith) (fixes m p q large i (omega arith) w.single) l f (omega arith) lt;
      consistent = half_consistent m p q large i d;
      trim = half_trim m p q large i d;
    }

module _ (m : Meaning) (hopeless : ℕ → ℕ → Bool) where
  -- a count that no entry passes makes no difference
  fresh_height : (P : Pairs) (k H G : ℕ) (es : List Entry) → ((l : ℕ) → l ≤ length es → G < l → H < l) → Fresh m hopeless P k H es → Fresh m hopeless P k G es
  fresh_height P k H G [] f x = tt
  fresh_height P k H G (part p from ∷ es) f x = (λ lt. x.0 (f (suc (length es)) (omega arith) lt), fresh_height P k H G es (λ l le. f l (omega arith)) x.1)
  fresh_height P k H G (pair s n ∷ es) f x = fresh_height P k H G es (λ l le. f l (omega arith)) x

  -- a pair that is kept answers none of the questions of the parts below
  kept_quiet : (P Q : Pairs) (s n k : ℕ) (p : Structure) (j : ℕ) → Kept P s n Q → n + j < k → Answered m hopeless P k p j → Answered m hopeless Q k p j
  kept_quiet P Q s n k p j one lt a = record { quiet = still; single = a.single; consistent = a.consistent; trim = a.trim }
    where
      still : (l : ℕ) → l ≤ j → (recalls Q (state_of m p l) (k - l) || hopeless (state_of m p l) (k - l)) ≡ false
      still l le =
          let t = state_of m p l in
          let was = or_parts (recalls P t (k - l)) (hopeless t (k - l)) (a.quiet l le) in
          or_from _ _ (elim (cases_Bool (recalls Q t (k - l))) [
            | inl e ↦
                let r = recalled Q t (k - l) e in
                elim (one t r.left r.there) [
                  | inl old ↦ absurd (both_ways _ was.0 (recalls_yes P t (k - l) r.left r.enough r.byte old))
                  | inr new ↦ absurd (omega (arith, new.1, r.enough))
                ]
            | inr e ↦ e
          ]) was.1

  fresh_kept : (k H : ℕ) (P Q : Pairs) (s n : ℕ) (es : List Entry) → Kept P s n Q → AllMoreLeft k n es → Fresh m hopeless P k H es → Fresh m hopeless Q k H es
  fresh_kept k H P Q s n [] one y x = tt
  fresh_kept k H P Q s n (part p from ∷ es) one y x = (λ lt. still from y.0 (x.0 lt), fresh_kept k H P Q s n es one y.1 x.1)
    where
      still : (o : Option ℕ) → LessLeft k n o → AnsweredHalf m hopeless P k p o → AnsweredHalf m hopeless Q k p o
      still None u v = tt
      still (Some j) u v = kept_quiet P Q s n k p j one u v
  fresh_kept k H P Q s n (pair r l ∷ es) one y x = fresh_kept k H P Q s n es one y x

  settle_fresh : (bound k H n : ℕ) (out : List (ℕ × ℕ)) (es : List Entry) (P P' : Pairs) → length es ≤ n → Keeps Pairs Kept (popped es) P P' → Ordered k es → Fresh m hopeless P k H es
      → Fresh m hopeless P' (settle m bound k out es).machine.round (min H (min n (length (settle m bound k out es).machine.entries))) (settle m bound k out es).machine.entries
  unfolding settle over put_up popped
  settle_fresh bound k H n out [] P P' le no_pair od x = go (eqb k bound)
    where
      go : (b : Bool) → Fresh m hopeless P (over m bound k b).round (min H (min n (length (over m bound k b).entries))) (over m bound k b).entries
      go true = tt
      go false = (λ lt. tt, tt)
  settle_fresh bound k H n out (part p from ∷ es) P P' le no_pair od x = fresh_height P k H (min H (min n (suc (length es)))) (part p from ∷ es) (λ l short lt. omega arith) x
  settle_fresh bound k H n out (pair s r ∷ es) P P' le (one_pair {y = Q} one more) od x =
      settle_fresh bound k H n (out ++ (s, r) ∷ []) es Q P' (omega arith) more od.1 (fresh_kept k H P Q s r es one od.0 x)

  below_fresh : (recall : ℕ → ℕ → Bool) (P : Pairs) (bound k H G : ℕ) (from : Option ℕ) (q : Structure) (rest : List Entry) (i : ℕ) → ((l : ℕ) → l ≤ length rest → G < l → H < l) → Fresh m hopeless P k H rest
      → Fresh m hopeless P k G (below_halves m recall hopeless bound k from q rest i)
  unfolding below_halves
  below_fresh recall P bound k H G from q rest i f x = go (earlier from i)
    where
      go : (b : Bool) → Fresh m hopeless P k G (cond b (pair (state_of m q i) (k - i) ∷ rest) rest)
      go true = fresh_height P k H G rest f x
      go false = fresh_height P k H G rest f x

below_long : (m : Meaning) (recall hopeless : ℕ → ℕ → Bool) (bound k : ℕ) (from : Option ℕ) (q : Structure) (rest : List Entry) (i : ℕ) → length rest ≤ length (below_halves m recall hopeless bound k from q rest i)
unfolding below_halves
below_long m recall hopeless bound k from q rest i = go (earlier from i)
  where
    go : (b : Bool) → length rest ≤ length (cond b (pair (state_of m q i) (k - i) ∷ rest) rest)
    go true = omega arith
    go false = omega arith

none_fresh : (m : Meaning) (hopeless : ℕ → ℕ → Bool) (P : Pairs) (k H : ℕ) (es : List Entry) → length es ≤ H → Fresh m hopeless P k H es
none_fresh m hopeless P k H [] le = tt
none_fresh m hopeless P k H (part p from ∷ es) le = (λ lt. absurd (omega arith), none_fresh m hopeless P k H es (omega arith))
none_fresh m hopeless P k H (pair s n ∷ es) le = none_fresh m hopeless P k H es (omega arith)

pub begins_fresh : ACallBeginsWithNoAnswers
begins_fresh m hopeless P k es = none_fresh m hopeless P k (length es) es (omega arith)

pub stays_fresh : EveryStepKeepsTheAnswers
unfolding split
stays_fresh A m lw most hopeless S P made P' H step keeps u s od x = go (moves m (recalls P) hopeless S made step) P' keeps u
  where
    k : ℕ
    k = S.round

    go : {y : Made} → Move m (recalls P) hopeless S y → (Q : Pairs) → Keeps Pairs Kept y.keeps P Q → y.machine.stage ≡ unfinished
        → Fresh m hopeless Q y.machine.round (min H (min (length S.entries - 1) (length y.machine.entries))) y.machine.entries
    go (finds p q from rest e large single) Q ks u = never cc
    go (splits p q from rest i d e w quiet proper) Q no_pair u =
        let sh : Shallow A k (part p from ∷ rest) = subst (λ (z : List Entry). Shallow A k z) e s in
        let ord : Ordered k (part p from ∷ rest) = subst (λ (z : List Entry). Ordered k z) e od in
        let old : Fresh m hopeless P k H (part p from ∷ rest) = subst (λ (z : List Entry). Fresh m hopeless P k H z) e x in
        let answered = answered_half m lw hopeless P k p q i sh.0 w quiet ord.1 in
        let under = below_halves m (recalls P) hopeless S.bound k from q rest i in
        let before : length S.entries ≡ suc (length rest) = ap (λ z. length z) e in
        let long : length rest ≤ length under = below_long m (recalls P) hopeless S.bound k from q rest i in
        let G = min H (min (length S.entries - 1) (suc (suc (length under)))) in
        (λ lt. answered d, (λ lt. answered (λ a. not (d a)), below_fresh m hopeless (recalls P) P S.bound k H G from q rest i (λ l le lt. omega arith) old.1))
    go (drops p from rest e dropped) Q ks u =
        let ord : Ordered k (part p from ∷ rest) = subst (λ (z : List Entry). Ordered k z) e od in
        let old : Fresh m hopeless P k H (part p from ∷ rest) = subst (λ (z : List Entry). Fresh m hopeless P k H z) e x in
        let before : length S.entries ≡ suc (length rest) = ap (λ z. length z) e in
        settle_fresh m hopeless S.bound k H (length S.entries - 1) [] rest P Q (omega arith) (subst (λ (z : List (ℕ × ℕ)). Keeps Pairs Kept z P Q) (settle_keeps m S.bound k [] rest) ks) ord.2 old.1

pub later_only : OnlyLaterLevelsNeedAsking
later_only m hopeless P k p j a q (wiped e none z) l le short = absurd (true≢false e)
later_only m hopeless P k p j a q (kept e large) l le short = subst (λ (t : ℕ). (recalls P t (k - l) || hopeless t (k - l)) ≡ false) (sym same_state) (a.quiet l le)
  where
    down : (f : ℕ) (v : Bool) → q.possible l f v ≡ true → p.possible l f v ≡ true
    down f v e = (and_parts (leb l p.round && ltb f m.facts) _ (large.below.possible l f v short e)).1

    one : (f : ℕ) → f < m.facts → (q.possible l f true ≡ true) ⊎ (q.possible l f true ≡ false) → (p.possible l f true ≡ true) ⊎ (p.possible l f true ≡ false) → q.possible l f true ≡ p.possible l f true
    one f lt (inl x) r = x ∙ sym (down f true x)
    one f lt (inr x) (inr r) = x ∙ sym r
    one f lt (inr x) (inl r) = elim (or_cases _ _ (large.consistent.value l f (let same = round_same m p q large in omega arith) lt)) [
      | inl on ↦ absurd (both_ways _ x on)
      | inr off ↦ absurd (a.single l f le lt r (down f false off))
    ]

    same_state : state_of m q l ≡ state_of m p l
    same_state = packed_same _ _ m.facts (λ f lt. one f lt (cases_Bool (q.possible l f true)) (cases_Bool (p.possible l f true)))
