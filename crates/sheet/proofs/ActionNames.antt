-- The line of an action in a spelled sheet: after line 1 and the lines of the facts comes one line for each action, whose
-- second word is its name.
use Rattle.std.proofs.Common.{◌≡◌, ℕ, zero, suc, ◌+◌, ◌<◌, ◌≤◌, true, cond, ◌&&◌, ltb, leb, List, [], ◌∷◌, ◌++◌, length, get_or, drop, IfOk, Ok, Err, decimal, Result, sym, refl, ap, ◌∙◌, append_assoc, arith, Bor}
use Rattle.std.specs.List.{flat_map, AllByRecursion}
use Rattle.std.proofs.ByRecursion.{All-get_or}
use Rattle.std.proofs.lemmas.List.{get_or-drop}
use Rattle.std.proofs.lemmas.Bool.{and_parts, leb-true, ltb-true, ltb-false, lt-ltb, le-ltb, cond-true, cond-false}
use Rattle.sheet.specs.declared.counts.Counts.{Counts}
use Rattle.sheet.specs.declared.fault.Fault.{Fault}
use Rattle.sheet.specs.declared.fault.Fault.TheVariants as fault
use Rattle.sheet.specs.declared.refusal.Refusal.{Refusal}
use Rattle.sheet.specs.declared.word.Head.{Head}
use Rattle.sheet.specs.declared.word.Head.TheVariants.{Job, Fact, Act, Bodies, Start, Goal, Needs, Makes}
use Rattle.sheet.specs.Actions.{Accepted, action_name, checked, counts_of, named, unnamed, NamesTheAction}
use Rattle.sheet.specs.Agree.{Agree}
use Rattle.sheet.specs.Counting.{Limits}
use Rattle.sheet.specs.Dues.{then}
use Rattle.sheet.specs.Forms.{text}
use Rattle.sheet.specs.Grammar.{JobSheet, WellFormed, spell, meaning}
use Rattle.sheet.specs.Lines.{lines}
use Rattle.sheet.specs.Name.{name, letters}
use Rattle.sheet.specs.Sheet.{Read, sheet}
use Rattle.sheet.specs.Spell.{unwords, line, literals}
use Rattle.sheet.specs.Words.{words}
use Rattle.sheet.proofs.Answered.{agree_ok, agree_err, agree_at_ok, agree_at_err, then_ok, kept, passed, rejected, ok_same}
use Rattle.sheet.proofs.SheetAccepted.{accepted}
use Rattle.sheet.proofs.PartsSpelled.{Tight, tight_decimal, tight_name, its_lines, words_unwords}
use Rattle.sheet.proofs.SheetSpelled.{written}

-- lines of names, with r after them
module _ (h : Head) where
  abbrev many : List (List ℕ) → List ℕ
  many ns = flat_map (λ n. line h (n ∷ [])) ns

  first_line : (w : List ℕ) (ns : List (List ℕ)) (r : List ℕ) → name w ≡ true → lines (many (w ∷ ns) ++ r) ≡ unwords (text h ∷ w ∷ []) ∷ lines (many ns ++ r)
  first_line w ns r e =
      ap lines (append_assoc (line h (w ∷ [])) (flat_map (λ n. line h (n ∷ [])) ns) r)
      ∙ its_lines h (w ∷ []) (flat_map (λ n. line h (n ∷ [])) ns ++ r) (tight_name w e, tt)

  past : (ns : List (List ℕ)) (r : List ℕ) → AllByRecursion (λ n. name n ≡ true) ns → drop (length ns) (lines (many ns ++ r)) ≡ lines r
  past [] r a = refl
  past (w ∷ ns) r a = ap (drop (suc (length ns))) (first_line w ns r a.0) ∙ past ns r a.1

  nth : (ns : List (List ℕ)) (r : List ℕ) (a : ℕ) → a < length ns → AllByRecursion (λ n. name n ≡ true) ns → get_or (lines (many ns ++ r)) a [] ≡ unwords (text h ∷ get_or ns a [] ∷ [])
  nth [] r a h' all = absurd (omega arith)
  nth (w ∷ ns) r zero h' all = ap (λ ls. get_or ls 0 []) (first_line w ns r all.0)
  nth (w ∷ ns) r (suc a) h' all = ap (λ ls. get_or ls (suc a) []) (first_line w ns r all.0) ∙ nth ns r a (omega arith) all.1

pub spelled_name : (v : JobSheet) → WellFormed v → (a : ℕ) → a < length v.acts → action_name (spell v) (length v.facts) a ≡ get_or v.acts a []
spelled_name v w a below =
    let F = length v.facts in
    let A = length v.acts in
    let ws = decimal F ∷ decimal A ∷ decimal v.bound ∷ [] in
    let tight : AllByRecursion Tight ws = (tight_decimal F (omega (arith, w.facts_most)), (tight_decimal A (omega (arith, w.acts_most)), (tight_decimal v.bound (omega (arith, w.bound_most)), tt))) in
    let R3 = line Bodies [] ++ (literals Start v.start ++ (literals Goal v.goal ++ flat_map (λ b. literals Needs b.needs ++ literals Makes b.makes) v.bodies)) in
    let R2 = flat_map (λ n. line Act (n ∷ [])) v.acts ++ R3 in
    let R1 = flat_map (λ n. line Fact (n ∷ [])) v.facts ++ R2 in
    let n = get_or v.acts a [] in
    let is : name n ≡ true = All-get_or (λ n. name n ≡ true) v.acts a [] below w.acts_named.0 in
    let one : 1 + F ≡ suc F = omega arith in
    let its : get_or (lines (line Job ws ++ R1)) (1 + F + a) [] ≡ unwords (text Act ∷ n ∷ []) =
    sym (get_or-drop (1 + F) (lines (line Job ws ++ R1)) a [])
    ∙ (λ i. get_or (drop (one i) (its_lines Job ws R1 tight i)) a [])
    ∙ ap (λ ls. get_or ls a []) (past Fact v.facts R2 w.facts_named.0)
    ∙ nth Act v.acts R3 a below w.acts_named.0 in
    ap (λ l. get_or (words l) 1 []) its ∙ ap (λ vs. get_or vs 1 []) (words_unwords (text Act) (n ∷ []) refl (tight_name n is, tt))

pub checked_ok : (bs : List ℕ) (x : Read) → checked bs ≡ Ok x → sheet bs ≡ Ok x
checked_ok bs x e = passed (ltb 32768 (length bs)) _ (sheet bs) x e

pub accepted_limits : (bs : List ℕ) (c : Counts) → Accepted bs c → Limits c
accepted_limits bs c p =
    let q = accepted bs p.0 (checked_ok bs p.0 p.1) in
    let w = q.1 in
    let e = p.2 ∙ ap (λ x. x.counts) q.3 in
    let F = ap (λ k. k.facts) e in
    let A = ap (λ k. k.actions) e in
    (omega (arith, F, w.some), omega (arith, F, w.facts_most), omega (arith, A, w.acts_most), omega (arith, ap (λ k. k.bound) e, w.bound_most))

-- the names of an accepted sheet are those of the sheet that spells it
pub sheet_names : (bs : List ℕ) (x : Read) → sheet bs ≡ Ok x
    → (v : JobSheet) × WellFormed v × (bs ≡ spell v) × (x ≡ meaning v) × ((a : ℕ) → a < length v.acts → action_name bs x.counts.facts a ≡ get_or v.acts a [])
sheet_names bs x e =
    let q = accepted bs x e in
    (q.0, q.1, q.2, q.3, λ a below. (λ i. action_name (q.2 i) (q.3 i).counts.facts a) ∙ spelled_name q.0 q.1 a below)

pub accepted_name : (bs : List ℕ) (c : Counts) → Accepted bs c → (a : ℕ) → a < c.actions
    → (v : JobSheet) × WellFormed v × (bs ≡ spell v) × (a < length v.acts) × (action_name bs c.facts a ≡ get_or v.acts a [])
accepted_name bs c p a below =
    let q = sheet_names bs p.0 (checked_ok bs p.0 p.1) in
    let few : a < length q.0.acts = omega (arith, below, ap (λ k. k.actions) p.2, ap (λ x. x.counts.actions) q.3) in
    (q.0, q.1, q.2, few, ap (λ k. action_name bs k.facts a) p.2 ∙ q.4 a few)

name_short : (n : List ℕ) → name n ≡ true → length n ≤ 24
name_short n e =
    let p = and_parts (leb 1 (length n)) (leb (length n) 24 && letters n) e in
    leb-true (length n) 24 (and_parts (leb (length n) 24) (letters n) p.1).0

pub short_name : (bs : List ℕ) (c : Counts) → Accepted bs c → (a : ℕ) → a < c.actions → length (action_name bs c.facts a) ≤ 24
short_name bs c p a below =
    let q = accepted_name bs c p a below in
    let v = q.0 in
    let is : name (get_or v.acts a []) ≡ true = All-get_or (λ n. name n ≡ true) v.acts a [] q.3 q.1.acts_named.0 in
    omega (arith, ap length q.4, name_short (get_or v.acts a []) is)

-- a sheet that is short enough is read by its lines
pub checked_is : (bs : List ℕ) → length bs ≤ 32768 → checked bs ≡ sheet bs
checked_is bs h = cond-false (ltb 32768 (length bs)) _ _ (le-ltb 32768 (length bs) h)

pub checks : (R : Read → Counts → Type 0) → ((x : Read) (c : Counts) → R x c → c ≡ x.counts) → (bs : List ℕ) (r : Result Counts Refusal) → length bs ≤ 32768
    → Agree R (sheet bs) r → Agree (λ x c. c ≡ x.counts) (checked bs) r × IfOk r (Accepted bs)
checks R weak bs (Ok c) h e =
    let p = agree_ok R (sheet bs) c e in
    (agree_at_ok _ (checked bs) p.0 c (checked_is bs h ∙ p.1) (weak p.0 c p.2), (p.0, checked_is bs h ∙ p.1, weak p.0 c p.2))
checks R weak bs (Err f) h e = (agree_at_err _ (checked bs) f f (checked_is bs h ∙ agree_err R (sheet bs) f e) refl, tt)

-- a sheet is accepted with the counts that it says
pub accepted_by_counts : (bs : List ℕ) (c : Counts) → counts_of bs ≡ Ok c → Accepted bs c
accepted_by_counts bs c e =
    let k : Read → Result Counts Refusal = λ x. Ok x.counts in
    let p = then_ok (checked bs) k c e in
    (p.0, p.1, sym (ok_same p.0.counts c p.2))

pub counts_accepted : (bs : List ℕ) (c : Counts) → Accepted bs c → counts_of bs ≡ Ok c
counts_accepted bs c p = let k : Read → Result Counts Refusal = λ x. Ok x.counts in ap (λ r. then r k) p.1 ∙ ap Ok (sym p.2)

pub unnamed_ok : (r : Result Read Refusal) (x : Read) → unnamed r ≡ Ok x → r ≡ Ok x
unnamed_ok (Ok y) x e = let same : y ≡ x = cc in ap Ok same
unnamed_ok (Err f) x e = absurd (grind arith)

pub spelled_checked : (bs : List ℕ) (v : JobSheet) → WellFormed v → bs ≡ spell v → length bs ≤ 32768 → checked bs ≡ Ok (meaning v)
spelled_checked bs v w s h = checked_is bs h ∙ ap sheet s ∙ written v w

pub names_law : (bs : List ℕ) (a : ℕ) (r : Result (Bor (List ℕ)) Fault) → Agree (λ name n. n.now ≡ name) (named bs a) r → NamesTheAction bs a r
names_law bs a (Ok n) h =
    let p = agree_ok _ (named bs a) n h in
    let q = then_ok (unnamed (checked bs)) _ p.0 p.1 in
    let x = q.0 in
    let k = kept (ltb a x.counts.actions) (Ok (action_name bs x.counts.facts a)) _ p.0 q.2 in
    let s = accepted_name bs x.counts (x, unnamed_ok (checked bs) x q.1, refl) a (ltb-true a x.counts.actions k.0) in
    (s.0, s.1, s.2, s.3, p.2 ∙ sym (ok_same _ p.0 k.1) ∙ s.4)
names_law bs a (Err f) h = λ v w s short.
    let e = agree_err _ (named bs a) f h in
    let told = ap unnamed (spelled_checked bs v w s short) in
    let g = sym (ap (λ r. then r (λ x. cond (ltb a x.counts.actions) (Ok (action_name bs x.counts.facts a)) (Err fault.Mismatch))) told) ∙ e in
    ltb-false a (length v.acts) (rejected (ltb a (length v.acts)) (action_name bs (length v.facts) a) _ f g)

-- the answers of the call
module _ (bs : List ℕ) (a : ℕ) where
  pub refused_sheet : (f : Refusal) → checked bs ≡ Err f → named bs a ≡ Err fault.Mismatch
  refused_sheet f e = ap (λ r. then (unnamed r) (λ x. cond (ltb a x.counts.actions) (Ok (action_name bs x.counts.facts a)) (Err fault.Mismatch))) e

  read_sheet : (x : Read) (c : Counts) → checked bs ≡ Ok x → c ≡ x.counts → named bs a ≡ cond (ltb a c.actions) (Ok (action_name bs c.facts a)) (Err fault.Mismatch)
  read_sheet x c e k =
      ap (λ r. then (unnamed r) (λ x. cond (ltb a x.counts.actions) (Ok (action_name bs x.counts.facts a)) (Err fault.Mismatch))) e
      ∙ (λ i. cond (ltb a (sym k i).actions) (Ok (action_name bs (sym k i).facts a)) (Err fault.Mismatch))

  pub no_action : (x : Read) (c : Counts) → checked bs ≡ Ok x → c ≡ x.counts → c.actions ≤ a → named bs a ≡ Err fault.Mismatch
  no_action x c e k h = read_sheet x c e k ∙ cond-false (ltb a c.actions) _ _ (le-ltb a c.actions h)

  pub its_name : (x : Read) (c : Counts) → checked bs ≡ Ok x → c ≡ x.counts → a < c.actions → named bs a ≡ Ok (action_name bs c.facts a)
  its_name x c e k h = read_sheet x c e k ∙ cond-true (ltb a c.actions) _ _ (lt-ltb a c.actions h)
