-- The names of a sheet's actions.
use Rattle.std.specs.Prelude.{◌≡◌, ℕ, ◌+◌, ◌<◌, ◌≤◌, cond, List, [], length, Ok, Err, Result, nat_lt, slice_index_or}
use Rattle.std.specs.Borrow.{Bor}
use Rattle.sheet.specs.declared.counts.Counts.{Counts}
use Rattle.sheet.specs.declared.fault.Fault.{Fault}
use Rattle.sheet.specs.declared.fault.Fault.TheVariants as fault
use Rattle.sheet.specs.declared.refusal.Refusal.{Refusal}
use Rattle.sheet.specs.Dues.{then}
use Rattle.sheet.specs.Grammar.{JobSheet, WellFormed, spell}
use Rattle.sheet.specs.Lines.{lines}
use Rattle.sheet.specs.Sheet.{Read, sheet, sized}
use Rattle.sheet.specs.Words.{words}

-- What a sheet says, where no tables are asked for.
abbrev pub checked : List ℕ → Result Read Refusal
checked bs = sized bs (sheet bs)

-- The counts that a sheet says, where no tables are asked for.
abbrev pub counts_of : List ℕ → Result Counts Refusal
counts_of bs = then (checked bs) (λ x. Ok x.counts)

-- A sheet that is accepted, with its counts.
abbrev pub Accepted : List ℕ → Counts → Type 0
Accepted bs c = (x : Read) × (checked bs ≡ Ok x) × (c ≡ x.counts)

-- A sheet that is refused has no names.
abbrev pub unnamed : Result Read Refusal → Result Read Fault
unnamed (Ok x) = Ok x
unnamed (Err refusal) = Err fault.Mismatch

-- The second word of the line of action a, which stands after line 1 and the lines of F facts.
abbrev pub action_name : List ℕ → ℕ → ℕ → List ℕ
action_name bs facts a = slice_index_or (words (slice_index_or (lines bs) (1 + facts + a) [])) 1 []

-- The name of action a of a sheet.
abbrev pub named : List ℕ → ℕ → Result (List ℕ) Fault
named bs a = then (unnamed (checked bs)) (λ x. cond (nat_lt a x.counts.actions) (Ok (action_name bs x.counts.facts a)) (Err fault.Mismatch))

-- The name answered is the one that the sheet gives the action; where none is answered, the sheet is too long or has no such action.
abbrev pub NamesTheAction : List ℕ → ℕ → Result (Bor (List ℕ)) Fault → Type 0
NamesTheAction bs a (Ok n) = (v : JobSheet) × WellFormed v × (bs ≡ spell v) × (a < length v.acts) × (n.now ≡ slice_index_or v.acts a [])
NamesTheAction bs a (Err e) = (v : JobSheet) → WellFormed v → bs ≡ spell v → length bs ≤ 32768 → length v.acts ≤ a
