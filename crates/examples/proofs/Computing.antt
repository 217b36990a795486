-- A run of the search so that it computes. It makes the very steps of the search, with the sweeps in the filter's place and the rows
-- of a list memory in the memory's. Only proofs use this.
use Rattle.std.proofs.Common.{ℕ, zero, suc, Bool, true, false, ◌&&◌, List, [], ◌∷◌}
use Rattle.tasks.specs.Meaning.{Meaning}
use Rattle.memories.specs.Pairs.{recalls}
use Rattle.memories.specs.declared.row.Row.{Row}
use Rattle.memories.specs.Rows.{among, keep_row}
use Rattle.estimators.specs.GoalCounts.{goal_count}
use Rattle.search.specs.Machines.{Entry, Stage, Machine, Made}
use Rattle.search.specs.Machines.Entry.{part, pair}
use Rattle.search.specs.Machines.Stage.{blank, unfinished, found, none}
use Rattle.search.specs.Steps.{next, put_up}
use Rattle.examples.proofs.Sweeps.{outcome}

abbrev pub recall_rows : List Row → ℕ → ℕ → Bool
recall_rows rows = recalls (among rows)

-- the rows after the pairs were kept one after the other
abbrev pub keep_rows : List Row → List (ℕ × ℕ) → List Row
keep_rows rows [] = rows
keep_rows rows (k ∷ ks) = keep_rows (keep_row 256 rows k.0 k.1) ks

-- what stands, and whether every step so far was one of an unfinished search whose sweeps came to an end
pub record Running : Type 0 where
  pub sure : Bool
  pub machine : Machine
  pub rows : List Row

abbrev pub from : Machine → List Row → Running
from S rows = record { sure = true; machine = S; rows = rows }

abbrev pub stuck : Machine → List Row → Running
stuck S rows = record { sure = false; machine = S; rows = rows }

module _ (m : Meaning) (hopeless : ℕ → ℕ → Bool) where
  abbrev pub taken : List Row → Bool → Made → Running
  taken rows b made = record { sure = b; machine = made.machine; rows = keep_rows rows made.keeps }

  abbrev pub with_entries : List Row → Machine → List Entry → Running
  with_entries rows S [] = stuck S rows
  with_entries rows S (pair s n ∷ rest) = stuck S rows
  with_entries rows S (part p from ∷ rest) =
      let o = outcome m p in
      taken rows o.sure (next m (recall_rows rows) hopeless S.bound S.round from o.result rest o.stands)

  abbrev pub in_stage : List Row → Machine → Stage → Running
  in_stage rows S blank = stuck S rows
  in_stage rows S unfinished = with_entries rows S S.entries
  in_stage rows S (found plan) = stuck S rows
  in_stage rows S none = stuck S rows

  abbrev pub step : Running → Running
  step R =
      let x = in_stage R.rows R.machine R.machine.stage in
      record { sure = R.sure && x.sure; machine = x.machine; rows = x.rows }

  abbrev pub steps : ℕ → Running → Running
  steps zero R = R
  steps (suc n) R = step (steps n R)

-- n steps from the opening, with goal count
abbrev pub run : Meaning → ℕ → ℕ → Running
run m bound n = steps m (goal_count m) n (from (put_up m bound 0) [])
