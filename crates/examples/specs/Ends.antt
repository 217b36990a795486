-- What so many steps come to, with a list memory and goal count.
use Rattle.std.specs.Prelude.{◌≡◌, ℕ, Bool, List, []}
use Rattle.tasks.specs.Meaning.{Meaning}
use Rattle.memories.specs.Pairs.{recalls}
use Rattle.memories.specs.declared.list.ListMemory.{ListMemory}
use Rattle.memories.specs.declared.row.Row.{Row}
use Rattle.memories.specs.Remembered.{IsRemembered}
use Rattle.memories.specs.contracts.list.ListMemoryMemory.TheImpl as list_memory
use Rattle.estimators.specs.GoalCounts.{goal_count}
use Rattle.search.specs.Machines.{Stage, Machine}
use Rattle.search.specs.Steps.{put_up}
use Rattle.search.specs.Calls.{Steps, Advanced}

-- What the list memory recalls, and what a keep makes of it.
abbrev pub recalled : ListMemory → ℕ → ℕ → Bool
recalled x = recalls ((list_memory.ghosts).has x)

abbrev pub kept : ListMemory → ℕ → ℕ → ListMemory → Type 0
kept = (list_memory.ghosts).keeps

-- So many steps lead from the opening of the task up to a bound, with memory x, to the search S and memory y.
abbrev pub Leads : Meaning → ℕ → ℕ → ListMemory → Machine → ListMemory → Type 0
Leads m bound n x S y = Steps ListMemory recalled kept m (goal_count m) n (put_up m bound 0) x S y

-- Likewise an advance by an amount, which made so many steps.
abbrev pub Advances : Meaning → ℕ → ℕ → ListMemory → Machine → ListMemory → ℕ → Type 0
Advances m bound amount x S y made = Advanced ListMemory recalled kept m (goal_count m) amount (put_up m bound 0) x S y made

-- After n steps from the opening of the task up to the bound, this verdict stands and the memory has these rows.
pub record Ends (m : Meaning) (bound n : ℕ) (stage : Stage) (rows : List Row) : Type 0 where
  -- in every way to make n steps
  pub every : (y : ListMemory) (S : Machine) → Leads m bound n [] S y → (S.stage ≡ stage) × (y ≡ rows)
  -- there is one, and a list memory with the rows to which it leads
  pub some : (S : Machine) × (y : ListMemory) × Leads m bound n [] S y × IsRemembered y
  -- and an advance by n makes n steps
  pub advance : (y : ListMemory) (S : Machine) (made : ℕ) → Advances m bound n [] S y made → (made ≡ n) × (S.stage ≡ stage) × (y ≡ rows)

-- A list memory with these rows answers so of a state and a number of actions left.
abbrev pub Answers : List Row → ℕ → ℕ → Bool → Type 0
Answers rows state left answer = recalled rows state left ≡ answer
