-- Goal count: how many goals do not hold, against how many of them one action can make.
use Rattle.std.specs.Prelude.{ℕ, ◌*◌, Bool, cond, not, ◌&&◌, nat_lt}
use Rattle.sets.specs.Bits.{bit}
use Rattle.sets.specs.Signs.{says}
use Rattle.sets.specs.Counts.{count}
use Rattle.tasks.specs.Meaning.{Meaning}
use Rattle.estimators.specs.Ranges.{most_below}

-- A goal does not hold in the state: it says of fact f the value that f does not have.
abbrev pub missing : Meaning → ℕ → ℕ → Bool
missing m s f = says (m.goal f) (not (bit s f))

-- How many goals do not hold in the state.
unfoldable pub missing_count : Meaning → ℕ → ℕ
missing_count m s = count (missing m s) m.facts

-- A goal that does not hold is made by the action.
abbrev pub gained : Meaning → ℕ → ℕ → ℕ → Bool
gained m s a f = missing m s f && says (m.makes a f) (not (bit s f))

-- How many of the goals that do not hold the action makes; none if it is not usable.
unfoldable pub gains : Meaning → ℕ → ℕ → ℕ
gains m s a = cond (m.usable a) (count (gained m s a) m.facts) 0

-- Even if each action left made as many missing goals as any action makes, one would be missing still.
unfoldable pub goal_count : Meaning → ℕ → ℕ → Bool
goal_count m s left = nat_lt (left * most_below (gains m s) m.actions) (missing_count m s)
