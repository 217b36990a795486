-- What is written of a verdict, and of a refusal.
use Rattle.std.specs.Prelude.{◌≡◌, ℕ, Bool, true, false, cond, ◌&&◌, List, [], ◌∷◌, ◌++◌, length, take, Ok, Err, codes, decimal, Result, nat_le, nat_lt, slice_index_or}
use Rattle.std.specs.List.{flat_map, list_all}
use Rattle.search.specs.declared.verdict.Verdict.{Verdict}
use Rattle.search.specs.declared.verdict.Verdict.TheVariants as verdict
use Rattle.sheet.specs.declared.counts.Counts.{Counts}
use Rattle.sheet.specs.declared.fault.Fault.{Fault}
use Rattle.sheet.specs.declared.fault.Fault.TheVariants as fault
use Rattle.sheet.specs.declared.refusal.Refusal.{Refusal}
use Rattle.sheet.specs.Actions.{checked, unnamed, action_name}
use Rattle.sheet.specs.Agree.{Agree}
use Rattle.sheet.specs.Bodies.{over}
use Rattle.sheet.specs.Dues.{then}
use Rattle.sheet.specs.Faults.{number}
use Rattle.sheet.specs.Grammar.{JobSheet, WellFormed, spell}

-- A line: bytes and LF.
abbrev pub ended : List ℕ → List ℕ
ended bs = bs ++ 10 ∷ []

-- `found N`, then the names of the plan's actions one a line.
abbrev pub plan_text : (ℕ → List ℕ) → ℕ → List ℕ → List ℕ
plan_text name n plan = ended (codes "found " ++ decimal n) ++ flat_map (λ a. ended (name a)) (take n plan)

-- The text of a verdict, with the plan's actions by their names.
abbrev pub text : (ℕ → List ℕ) → Verdict → List ℕ → List ℕ
text name verdict.Blank plan = []
text name verdict.Unfinished plan = ended (codes "unfinished")
text name (verdict.Found n) plan = plan_text name n plan
text name (verdict.None k) plan = ended (codes "none " ++ decimal k)

-- All numbers are below n.
abbrev pub below : ℕ → List ℕ → Bool
below n plan = list_all (λ a. nat_lt a n) plan

-- At most 30 numbers of actions stand in a plan.
abbrev pub fits_plan : ℕ → ℕ → List ℕ → Bool
fits_plan actions n plan = nat_le n 30 && (nat_le n (length plan) && below actions (take n plan))

-- Where a plan is found, it is one of the sheet's actions.
abbrev pub planned : Counts → Verdict → List ℕ → Bool
planned c verdict.Blank plan = true
planned c verdict.Unfinished plan = true
planned c (verdict.Found n) plan = fits_plan c.actions n plan
planned c (verdict.None k) plan = true

-- The text of a verdict on a sheet with these counts, or the fault of the plan.
abbrev pub text_for : List ℕ → Counts → Verdict → List ℕ → Result (List ℕ) Fault
text_for bs c v plan = cond (planned c v plan) (Ok (text (action_name bs c.facts) v plan)) (Err fault.Mismatch)

-- A search that was never opened.
abbrev pub blank : Verdict → Bool
blank verdict.Blank = true
blank verdict.Unfinished = false
blank (verdict.Found n) = false
blank (verdict.None k) = false

-- The text that is written into a buffer of so many bytes, or the first fault.
abbrev pub report_text : List ℕ → Verdict → List ℕ → ℕ → Result (List ℕ) Fault
report_text bs v plan room =
    cond (blank v) (Err fault.Blank)
    (cond (nat_lt room 800) (Err fault.BufferTooShort)
    (then (unnamed (checked bs)) (λ x. text_for bs x.counts v plan)))

-- The line that is told of a refusal: none, which is 0, where the sheet was refused before its lines.
abbrev pub line_of : Refusal → ℕ
line_of r = cond (nat_le 3 (number r.fault) && nat_le (number r.fault) 7) r.line 0

-- The text of a sheet's refusal.
abbrev pub refusal_text : Refusal → ℕ → Result (List ℕ) Fault
refusal_text r room =
    cond (nat_lt room 800) (Err fault.BufferTooShort)
    (Ok (ended ((codes "refused " ++ decimal (number r.fault)) ++ (codes " line " ++ decimal (line_of r)))))

-- A call writes a text at the front of a buffer and answers its length, or answers the fault; the bytes after the text are as they were.
abbrev pub Written : Result (List ℕ) Fault → List ℕ → List ℕ → Result ℕ Fault → Type 0
Written told before after r = Agree (λ text n. (n ≡ length text) × (after ≡ over text before)) told r

-- What is written names the actions as the sheet does.
abbrev pub ReportsTheSheet : List ℕ → Verdict → List ℕ → List ℕ → List ℕ → Result ℕ Fault → Type 0
ReportsTheSheet bs v plan before after (Ok n) = (s : JobSheet) × WellFormed s × (bs ≡ spell s) × (after ≡ over (text (λ a. slice_index_or s.acts a []) v plan) before)
ReportsTheSheet bs v plan before after (Err e) = Unit {0}
