-- A search as it is stored, as a machine.
use Rattle.std.specs.Prelude.{◌≡◌, ℕ, List}
use Rattle.search.specs.declared.stage.Stage as stored
use Rattle.search.specs.declared.stage.Stage.TheVariants.{Blank, Unfinished, Found, None}
use Rattle.search.specs.Machines.{Entry, Stage}
use Rattle.search.specs.Machines.Stage.{blank, unfinished, found, none}
use Rattle.search.specs.Depths.{Shallow, Topped}
use Rattle.search.specs.Parts.{actions_of}

-- What a stored stage stands for.
abbrev pub stage_of : stored.Stage → Stage
stage_of Blank = blank
stage_of Unfinished = unfinished
stage_of (Found p) = found (actions_of p)
stage_of None = none

-- What a search keeps up whatever it is passed: few entries are open, and a part is on top while it goes on.
pub record KeptUp (stage : Stage) (round : ℕ) (entries : List Entry) : Type 0 where
  pub shallow : Shallow 128 round entries
  pub topped : stage ≡ unfinished → Topped entries
