-- The entries of a search as they are stored, the oldest first.
use Rattle.std.specs.Prelude.{ℕ, List, [], ◌∷◌, ◌++◌}
use Rattle.filter.specs.Parts.{structure}
use Rattle.search.specs.declared.entry.Entry as stored
use Rattle.search.specs.declared.entry.Entry.TheVariants.{Open, Pending}
use Rattle.search.specs.Machines.{Entry}
use Rattle.search.specs.Machines.Entry.{part, pair}

-- What a stored entry stands for.
abbrev pub entry_of : stored.Entry → Entry
entry_of (Open p) = part (structure p.part.part) p.from
entry_of (Pending p) = pair p.state p.left

-- The entries, the newest first.
abbrev pub entries_of : List stored.Entry → List Entry
entries_of [] = []
entries_of (e ∷ es) = entries_of es ++ entry_of e ∷ []

-- The pairs on top, and what is below them.
abbrev pub pairs_on_top : List Entry → List (ℕ × ℕ)
pairs_on_top [] = []
pairs_on_top (part p from ∷ rest) = []
pairs_on_top (pair s n ∷ rest) = (s, n) ∷ pairs_on_top rest

abbrev pub below_pairs : List Entry → List Entry
below_pairs [] = []
below_pairs (part p from ∷ rest) = part p from ∷ rest
below_pairs (pair s n ∷ rest) = below_pairs rest
