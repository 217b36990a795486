-- What carrying out a fate leaves.
use Rattle.std.specs.Prelude.{◌≡◌, ℕ, ◌-◌, cond, List, [], ◌∷◌, Some, Option, ◌==◌}
use Rattle.tasks.specs.Meaning.{Meaning}
use Rattle.filter.specs.Parts.{structure}
use Rattle.search.specs.declared.apply.Standing.{Standing}
use Rattle.search.specs.declared.fate.Halves.{Halves}
use Rattle.search.specs.Machines.{Entry, Machine, Made}
use Rattle.search.specs.Machines.Entry.{part, pair}
use Rattle.search.specs.Machines.Stage.{unfinished}
use Rattle.search.specs.Steps.{earlier, over}
use Rattle.search.specs.Calls.{Keeps}
use Rattle.search.specs.Stored.{stage_of}

-- The entries after a part was split.
abbrev pub halved_entries : Halves → ℕ → Option ℕ → List Entry → List Entry
halved_entries h k from rest = part (structure h.first.part) (Some h.step) ∷ part (structure h.second.part) (Some h.step) ∷ cond (earlier from h.step) (pair h.state (k - h.step) ∷ rest) rest

-- What stands where these entries are left of the round.
abbrev pub left_of_round : Meaning → ℕ → ℕ → List Entry → Machine
left_of_round m bound k [] = over m bound k (k == bound)
left_of_round m bound k (e ∷ rest) = record { stage = unfinished; bound = bound; round = k; entries = e ∷ rest }

-- The machine with this stage and these rounds, and with these entries open.
abbrev pub machine_with : Standing → List Entry → Machine
machine_with s es = record { stage = stage_of s.stage; bound = s.rounds.bound; round = s.rounds.round; entries = es }

-- What a step makes was carried out: what then stands is its machine, and its pairs were kept.
pub record Applied (X : Type 0) (keeps : X → ℕ → ℕ → X → Type 0) (made : Made) (es' : List Entry) (x x' : X) (r : Standing) : Type 0 where
  pub machine : machine_with r es' ≡ made.machine
  pub kept : Keeps X keeps made.keeps x x'
