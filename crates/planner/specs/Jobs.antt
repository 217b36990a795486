-- The job that a sheet describes: its task and its bound.
use Rattle.std.specs.Prelude.{◌≡◌, ℕ, ◌≤◌, List, Ok, Err, Result, ◌≢◌}
use Rattle.tasks.specs.Meaning.{Meaning}
use Rattle.tasks.specs.Masked.{masked}
use Rattle.tasks.specs.Tables.{table_task}
use Rattle.sheet.specs.declared.refusal.Refusal.{Refusal}
use Rattle.sheet.specs.Actions.{checked}
use Rattle.sheet.specs.Faults.{number}
use Rattle.sheet.specs.Grammar.{JobSheet, WellFormed, spell}
use Rattle.sheet.specs.Sheet.{Read}
use Rattle.planner.specs.declared.job.Job.{Job}

-- The task that a sheet's counts and tables mean.
abbrev pub task_of : Read → Meaning
task_of x = table_task x.counts.facts x.counts.actions x.tables.needs x.tables.makes x.tables.start x.tables.goal

-- A job is that of a sheet: its task and its bound.
pub record IsJobOf (bs : List ℕ) (job : Job) : Type 0 where
  pub said : Read
  pub accepted : checked bs ≡ Ok said
  pub bound : job.bound ≡ said.counts.bound
  pub task : masked job.task ≡ task_of said

-- A refusal is that of a sheet's first fault; where that is a fault of a line, no well-formed sheet is spelled so.
pub record IsFaultOf (bs : List ℕ) (e : Refusal) : Type 0 where
  pub first : checked bs ≡ Err e
  pub no_sheet : 3 ≤ number e.fault → (s : JobSheet) → WellFormed s → bs ≢ spell s

-- A sheet is read as its job, or it is refused.
abbrev pub ReadAs : List ℕ → Result Job Refusal → Type 0
ReadAs bs (Ok job) = IsJobOf bs job
ReadAs bs (Err e) = IsFaultOf bs e
