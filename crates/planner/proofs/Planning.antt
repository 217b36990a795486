-- A report on the job that a sheet was read as is one on the sheet that its bytes spell, and it is refused only where the buffer
-- is short.
use Rattle.std.proofs.Common.{◌≡◌, ℕ, ◌<◌, ◌≤◌, true, ◌&&◌, leb, ltb, List, [], ◌∷◌, length, take, take_all, MatchResult, OnErr, Ok, Err, Result, sym, refl, ap, ◌∙◌, subst, inl, inr, arith}
use Rattle.std.proofs.lemmas.Bool.{cases_lt, cond-true, le-leb, lt-ltb}
use Rattle.filter.proofs.Values.{never}
use Rattle.tasks.specs.Masked.{masked}
use Rattle.tasks.specs.Masking.{masked_lawful}
use Rattle.tasks.specs.Meaning.{Lawful, Meaning}
use Rattle.tasks.specs.States.{Reaches, after, start_state}
use Rattle.search.specs.declared.verdict.Verdict.{Verdict}
use Rattle.search.specs.declared.verdict.Verdict.TheVariants as verdict
use Rattle.sheet.specs.declared.counts.Counts.{Counts}
use Rattle.sheet.specs.declared.fault.Fault.{Fault}
use Rattle.sheet.specs.Actions.{checked}
use Rattle.sheet.specs.Grammar.{JobSheet, WellFormed, meaning, spell}
use Rattle.sheet.specs.Report.{ReportsTheSheet, Written, below, planned, report_text}
use Rattle.sheet.specs.Sheet.{Read, sheet}
use Rattle.sheet.proofs.Answered.{agree_err, ok_same, passed}
use Rattle.sheet.proofs.Reporting.{not_blank, of_accepted}
use Rattle.sheet.proofs.SheetSpelled.{written as its_reading}
use Rattle.planner.specs.declared.job.Job.{Job}
use Rattle.planner.specs.declared.told.Untold.{Untold}
use Rattle.planner.specs.declared.told.Untold.TheVariants.{BufferTooShort}
use Rattle.planner.specs.Jobs.{IsJobOf, task_of}
use Rattle.planner.specs.Planned.{Judged, NotTold, TellsTheJob}

-- what is accepted means what the sheet that it spells does
said_so : (bs : List ℕ) (x : Read) (s : JobSheet) → checked bs ≡ Ok x → WellFormed s → bs ≡ spell s → x ≡ meaning s
said_so bs x s e w q = ok_same x (meaning s) (sym (passed (ltb 32768 (length bs)) _ (sheet bs) x e) ∙ ap sheet q ∙ its_reading s w)

pub tells_the_job : (bs : List ℕ) (job : Job) → IsJobOf bs job → (v : Verdict) (plan before after : List ℕ) → Judged (masked job.task) job.bound v plan → (r : Result ℕ Fault)
    → Written (report_text bs v plan (length before)) before after r → ReportsTheSheet bs v plan before after r → (n : ℕ) → MatchResult r (λ k. ◌≡◌ {A = Result ℕ Untold} (Ok n) (Ok k)) (λ _. ⊥)
    → TellsTheJob bs before after n
tells_the_job bs job is v plan before after j (Ok k) w law n m =
    let s = law.0 in
    let same = said_so bs is.said s is.accepted law.1 law.2 in
    let long : n ≡ k = cc in
    record {
      sheet = s;
      well_formed = law.1;
      spelled = law.2;
      accepted = is.accepted ∙ ap Ok same;
      verdict = v;
      plan = plan;
      right = subst (λ (m : Meaning). Judged m s.bound v plan) (is.task ∙ ap task_of same)
          (subst (λ (k : ℕ). Judged (masked job.task) k v plan) (is.bound ∙ ap (λ (x : Read). x.counts.bound) same) j);
      written = subst (λ (k : ℕ). Written (report_text bs v plan (length before)) before after (Ok k)) (sym long) w;
      named = law.3;
    }
tells_the_job bs job is v plan before after j (Err e) w law n m = absurd m

-- the actions of a sequence that reaches the goals are below the number of actions
below_all : (m : Meaning) → Lawful m → (acts : List ℕ) (s : ℕ) → Reaches m s acts → below m.actions acts ≡ true
below_all m law [] s r = refl
below_all m law (a ∷ acts) s r =
    let small : a < m.actions = inside in
    (λ i. lt-ltb a m.actions small i && below_all m law acts (after m s a) r.1 i)
  where
    inside : a < m.actions
    inside = elim (cases_lt a m.actions) [
      | inl l ↦ l
      | inr l ↦ let past = law.usable_past a l in let is = r.0.usable in never cc
    ]

fits : (m : Meaning) → Lawful m → (c : Counts) → m.actions ≡ c.actions → (bound : ℕ) → bound ≤ 30 → (v : Verdict) (plan : List ℕ) → Judged m bound v plan → planned c v plan ≡ true
fits m law c same bound few verdict.Blank plan j = refl
fits m law c same bound few verdict.Unfinished plan j = refl
fits m law c same bound few (verdict.Found n) plan j =
    let one : leb n 30 ≡ true = le-leb n 30 (omega (arith, j.0, few)) in
    let two : leb n (length plan) ≡ true = le-leb n (length plan) (omega (arith, j.1)) in
    let three : below c.actions (take n plan) ≡ true = rw (take_all n plan (omega (arith, j.1)), sym same) (below_all m law plan (start_state m) j.2.solves) in
    (λ i. one i && (two i && three i))
fits m law c same bound few (verdict.None k) plan j = refl

-- the report of a verdict that is right of a job is refused only where the buffer is short
pub only_short : (bs : List ℕ) (job : Job) → IsJobOf bs job → (v : Verdict) (plan before after : List ℕ) → Judged (masked job.task) job.bound v plan → (e : Fault)
    → Written (report_text bs v plan (length before)) before after (Err e) → length before < 800
only_short bs job is v plan before after j e w = elim (cases_lt (length before) 800) [
  | inl l ↦ l
  | inr l ↦
      let m = masked job.task in
      let counts = is.said.counts in
      let begun : v ≡ verdict.Blank → ⊥ = λ q. subst (λ (w : Verdict). Judged m job.bound w plan) q j in
      let told = of_accepted bs v plan (length before) (not_blank v begun) l is.said counts is.accepted refl in
      let ok = cond-true (planned counts v plan) _ _ (fits m (masked_lawful job.task) counts (ap (λ (o : Meaning). o.actions) is.task) job.bound job.few v plan j) in
      let clash = sym (agree_err _ (report_text bs v plan (length before)) e w) ∙ told ∙ ok in
      absurd (never cc)
]

pub not_told : (bs : List ℕ) (job : Job) → IsJobOf bs job → (v : Verdict) (plan before after : List ℕ) → Judged (masked job.task) job.bound v plan → (r : Result ℕ Fault)
    → Written (report_text bs v plan (length before)) before after r → OnErr r (after ≡ before) → (why : Untold) → MatchResult r (λ n. ◌≡◌ {A = Result ℕ Untold} (Err why) (Ok n)) (λ _. why ≡ BufferTooShort)
    → NotTold bs before after why
not_told bs job is v plan before after j (Ok n) w same why m = absurd (never cc)
not_told bs job is v plan before after j (Err e) w same why m =
    subst (λ (u : Untold). NotTold bs before after u) (sym m) (only_short bs job is v plan before after j e w, same)
