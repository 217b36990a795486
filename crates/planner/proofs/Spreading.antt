-- Tables that are longer than a sheet's cells, with 0 past them, mean the same task.
use Rattle.std.proofs.Common.{◌≡◌, ℕ, zero, suc, ◌+◌, ◌-◌, ◌*◌, ◌<◌, ◌≤◌, Bool, true, false, cond, ltb, List, [], ◌∷◌, ◌++◌, length, get_or, drop, replicate, ℤ, pos, Ok, Err, sym, refl, ap, ◌∙◌, mul-le-mul, arith}
use lib.ListN.{length-replicate}
use Rattle.std.proofs.lemmas.Bool.{ltb-true, cond-false, le-ltb, or_from}
use Rattle.tasks.specs.Tables.{Limits, from, two, table_task}
use Rattle.sheet.specs.Actions.{checked}
use Rattle.sheet.specs.Bodies.{spread}
use Rattle.sheet.specs.Sheet.{Read, ReadInto, Tables, tables_of, written, short, reading, sized}
use Rattle.sheet.specs.declared.counts.Counts.{Counts}
use Rattle.sheet.specs.declared.refusal.Refusal.{Refusal}
use Rattle.sheet.proofs.Answered.{agree_ok, agree_err}

zeros : (k : ℕ) (rest : List ℤ) (i : ℕ) → i < k → get_or (replicate k (pos 0) ++ rest) i (pos 0) ≡ pos 0
zeros zero rest i h = absurd (omega arith)
zeros (suc k) rest zero h = refl
zeros (suc k) rest (suc i) h = zeros k rest i (omega arith)

past : (k : ℕ) (cells rest : List ℤ) (i : ℕ) → i < length cells + k → get_or ((cells ++ replicate k (pos 0)) ++ rest) i (pos 0) ≡ get_or cells i (pos 0)
past k [] rest zero h = zeros k rest zero (omega arith)
past k [] rest (suc i) h = zeros k rest (suc i) (omega arith)
past k (x ∷ xs) rest zero h = refl
past k (x ∷ xs) rest (suc i) h = past k xs rest i (omega arith)

spread_cell : (n : ℕ) (cells table : List ℤ) (i : ℕ) → i < n → get_or (spread n cells table) i (pos 0) ≡ get_or cells i (pos 0)
spread_cell n cells table i h = past (n - length cells) cells (drop n table) i (omega arith)

spread_from : (n at facts : ℕ) (cells table : List ℤ) → at + facts ≤ n → (f : ℕ) → from at facts (spread n cells table) f ≡ from at facts cells f
spread_from n at facts cells table h f = by (ltb f facts) refl
  where
    by : (b : Bool) → ltb f facts ≡ b → cond b (get_or (spread n cells table) (at + f) (pos 0)) (pos 0) ≡ cond b (get_or cells (at + f) (pos 0)) (pos 0)
    by true e = let l = ltb-true f facts e in spread_cell n cells table (at + f) (omega arith)
    by false e = refl

spread_two : (facts actions : ℕ) (cells table : List ℤ) → Limits facts actions → (a f : ℕ) → two facts actions (spread 8192 cells table) a f ≡ two facts actions cells a f
spread_two facts actions cells table h a f = by (ltb a actions) refl
  where
    by : (b : Bool) → ltb a actions ≡ b → cond b (from (a * facts) facts (spread 8192 cells table) f) (pos 0) ≡ cond b (from (a * facts) facts cells f) (pos 0)
    by true e =
        let l = ltb-true a actions e in
        let small : a ≤ 127 = omega (arith, h.2) in
        let most : a * facts ≤ 127 * 64 = mul-le-mul {n₁ = a} {m₁ = facts} {n₂ = 127} {m₂ = 64} small h.1 in
        spread_from 8192 (a * facts) facts cells table (omega (arith, h.1)) f
    by false e = refl

pub same_task : (facts actions : ℕ) (t table : Tables) → Limits facts actions →
    table_task facts actions (written t table).needs (written t table).makes (written t table).start (written t table).goal
    ≡ table_task facts actions t.needs t.makes t.start t.goal
same_task facts actions t table h = λ i. record {
  facts = facts;
  actions = actions;
  usable = λ a. ltb a actions;
  needs = λ a f. spread_two facts actions t.needs table.needs h a f i;
  makes = λ a f. spread_two facts actions t.makes table.makes h a f i;
  start = λ f. spread_from 64 0 facts t.start table.start (omega (arith, h.1)) f i;
  goal = λ f. spread_from 64 0 facts t.goal table.goal (omega (arith, h.1)) f i;
}

-- reading into tables that are long enough checks the sheet alone
pub long_enough : (bs : List ℕ) (t : Tables) → 8192 ≤ length t.needs → 8192 ≤ length t.makes → 64 ≤ length t.start → 64 ≤ length t.goal → reading bs t ≡ checked bs
long_enough bs t hn hm hs hg =
    let n = length t.needs in
    let m = length t.makes in
    let s = length t.start in
    let g = length t.goal in
    ap (sized bs) (cond-false (short t) _ _
    (or_from (ltb n 8192) _ (le-ltb n 8192 hn) (or_from (ltb m 8192) _ (le-ltb m 8192 hm) (or_from (ltb s 64) (ltb g 64) (le-ltb s 64 hs) (le-ltb g 64 hg)))))

-- the tables are long enough
pub record Room (t : Tables) : Type 0 where
  pub needs : 8192 ≤ length t.needs
  pub makes : 8192 ≤ length t.makes
  pub start : 64 ≤ length t.start
  pub goal : 64 ≤ length t.goal

pub room : (n m : ℕ) → 8192 ≤ n → 64 ≤ m → Room (tables_of (replicate n (pos 0)) (replicate n (pos 0)) (replicate m (pos 0)) (replicate m (pos 0)))
room n m h k = record {
  needs = omega (arith, length-replicate n (pos 0));
  makes = omega (arith, length-replicate n (pos 0));
  start = omega (arith, length-replicate m (pos 0));
  goal = omega (arith, length-replicate m (pos 0));
}

pub refused_as : (bs : List ℕ) (before after : Tables) (e : Refusal) → ReadInto bs before after (Err e) → Room before → checked bs ≡ Err e
refused_as bs before after e h r = sym (long_enough bs before r.needs r.makes r.start r.goal) ∙ agree_err _ (reading bs before) e h

pub read_as : (bs : List ℕ) (before after : Tables) (c : Counts) → ReadInto bs before after (Ok c) → Room before → (x : Read) × (checked bs ≡ Ok x) × (c ≡ x.counts) × (after ≡ written x.tables before)
read_as bs before after c h r =
    let p = agree_ok _ (reading bs before) c h in
    (p.0, sym (long_enough bs before r.needs r.makes r.start r.goal) ∙ p.1, p.2.0, p.2.1)
