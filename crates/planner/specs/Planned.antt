-- What the text that is printed of a sheet has to do with the sheet's task.
use Rattle.std.specs.Prelude.{◌≡◌, ℕ, ◌<◌, ◌≤◌, List, [], length, Ok, Err, Result, slice_index_or}
use Rattle.tasks.specs.Meaning.{Meaning}
use Rattle.tasks.specs.States.{Shortest, Solvable}
use Rattle.search.specs.Ceiling.{ceiling}
use Rattle.search.specs.declared.verdict.Verdict.{Verdict}
use Rattle.search.specs.declared.verdict.Verdict.TheVariants as verdict
use Rattle.sheet.specs.declared.refusal.Refusal.{Refusal}
use Rattle.sheet.specs.Actions.{checked}
use Rattle.sheet.specs.Bodies.{over}
use Rattle.sheet.specs.Grammar.{JobSheet, WellFormed, meaning, spell}
use Rattle.sheet.specs.Report.{Written, refusal_text, report_text, text}
use Rattle.sheet.specs.Sheet.{Read}
use Rattle.planner.specs.declared.told.Told.{Told}
use Rattle.planner.specs.declared.told.Told.TheVariants as told
use Rattle.planner.specs.declared.told.Untold.{Untold}
use Rattle.planner.specs.declared.told.Untold.TheVariants as untold
use Rattle.planner.specs.Jobs.{IsFaultOf, task_of}

-- A verdict is right of a task and a bound: a plan is a shortest, where there is none no plan of up to the bound's number of
-- actions exists, and where the search is unfinished the amount of work that always decides is more than ten million steps.
abbrev pub Judged : Meaning → ℕ → Verdict → List ℕ → Type 0
Judged m bound verdict.Blank plan = ⊥
Judged m bound verdict.Unfinished plan = ceiling m bound ≤ 10000000 → ⊥
Judged m bound (verdict.Found n) plan = (n ≤ bound) × (length plan ≡ n) × Shortest m plan
Judged m bound (verdict.None k) plan = (k ≡ bound) × (Solvable m bound → ⊥)

-- The report on a job: its bytes are those of a well-formed sheet, and what was written is the text of a verdict that is right
-- of the sheet's task and bound, with the plan's actions by the names that the sheet gives them.
pub record TellsTheJob (bs before after : List ℕ) (n : ℕ) : Type 0 where
  pub sheet : JobSheet
  pub well_formed : WellFormed sheet
  pub spelled : bs ≡ spell sheet
  pub accepted : checked bs ≡ Ok (meaning sheet)
  pub verdict : Verdict
  pub plan : List ℕ
  pub right : Judged (task_of (meaning sheet)) sheet.bound verdict plan
  pub written : Written (report_text bs verdict plan (length before)) before after (Ok n)
  pub named : after ≡ over (text (λ a. slice_index_or sheet.acts a []) verdict plan) before

-- The refusal of a sheet: what was written is the text of its first fault.
pub record TellsTheFault (bs before after : List ℕ) (n : ℕ) : Type 0 where
  pub fault : Refusal
  pub told : IsFaultOf bs fault
  pub written : Written (refusal_text fault (length before)) before after (Ok n)

-- Nothing was written: the buffer has fewer than 800 bytes, or the sheet is accepted and there is no room for a search.
abbrev pub NotTold : List ℕ → List ℕ → List ℕ → Untold → Type 0
NotTold bs before after untold.BufferTooShort = (length before < 800) × (after ≡ before)
NotTold bs before after untold.NoRoom = (x : Read) × (checked bs ≡ Ok x) × (after ≡ before)

-- What is printed of the bytes of a sheet.
abbrev pub Planned : List ℕ → List ℕ → List ℕ → Result Told Untold → Type 0
Planned bs before after (Ok (told.Report n)) = TellsTheJob bs before after n
Planned bs before after (Ok (told.Refusal n)) = TellsTheFault bs before after n
Planned bs before after (Err why) = NotTold bs before after why

-- How many bytes a text has.
abbrev pub size : Told → ℕ
size (told.Report n) = n
size (told.Refusal n) = n
