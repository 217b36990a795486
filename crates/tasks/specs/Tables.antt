-- What four tables of cells mean, and when they mean a task.
use Rattle.std.specs.Prelude.{ℕ, ◌+◌, ◌*◌, ◌<◌, ◌≤◌, cond, List, length, ℤ, pos, nat_lt, slice_index_or, unsigned_abs}
use Rattle.tasks.specs.Meaning.{Meaning, Three, Two}

-- 1 to 64 facts and at most 128 actions.
abbrev pub Limits : ℕ → ℕ → Type 0
Limits facts actions = (1 ≤ facts) × (facts ≤ 64) × (actions ≤ 128)

-- The tables needs, makes, start and goal have a cell for each question.
abbrev pub Long : ℕ → ℕ → List ℤ → List ℤ → List ℤ → List ℤ → Type 0
Long facts actions needs makes start goal =
    (actions * facts ≤ length needs) × (actions * facts ≤ length makes) × (facts ≤ length start) × (facts ≤ length goal)

-- The first n cells are 1, 0 or -1.
abbrev pub Threes : ℕ → List ℤ → Type 0
Threes n cells = (i : ℕ) → i < n → Three (slice_index_or cells i (pos 0))

-- The first n cells are 1 or -1.
abbrev pub Twos : ℕ → List ℤ → Type 0
Twos n cells = (i : ℕ) → i < n → Two (slice_index_or cells i (pos 0))

-- The first n cells are 1, -1 or, if the least size is 0, also 0.
abbrev pub Signs : ℕ → ℕ → List ℤ → Type 0
Signs least n cells = (i : ℕ) → i < n → (least ≤ unsigned_abs (slice_index_or cells i (pos 0))) × (unsigned_abs (slice_index_or cells i (pos 0)) ≤ 1)

-- The cells that are read are in their ranges; later ones are ignored.
abbrev pub Ranges : ℕ → ℕ → List ℤ → List ℤ → List ℤ → List ℤ → Type 0
Ranges facts actions needs makes start goal =
    Threes (actions * facts) needs × Threes (actions * facts) makes × Twos facts start × Threes facts goal

-- The cell of fact f where the facts' cells begin at some place; 0 past the facts.
abbrev pub from : ℕ → ℕ → List ℤ → ℕ → ℤ
from at facts cells f = cond (nat_lt f facts) (slice_index_or cells (at + f) (pos 0)) (pos 0)

-- The cell of fact f, and that of action a and fact f; 0 past the facts and the actions.
abbrev pub one : ℕ → List ℤ → ℕ → ℤ
one facts cells f = from 0 facts cells f

abbrev pub two : ℕ → ℕ → List ℤ → ℕ → ℕ → ℤ
two facts actions cells a f = cond (nat_lt a actions) (from (a * facts) facts cells f) (pos 0)

-- The task of four tables; every action is usable.
abbrev pub table_task : ℕ → ℕ → List ℤ → List ℤ → List ℤ → List ℤ → Meaning
table_task facts actions needs makes start goal = record {
  facts = facts;
  actions = actions;
  usable = λ a. nat_lt a actions;
  needs = two facts actions needs;
  makes = two facts actions makes;
  start = one facts start;
  goal = one facts goal;
}
