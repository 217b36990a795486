use Rattle.std.proofs.Common.{refl, ap}
use Rattle.tasks.specs.Masked.{masked}
use Rattle.search.specs.Calls.Keeps.{no_pair}
use Rattle.search.specs.Entries.{entries_of}
use Rattle.search.specs.Machines.Stage.{unfinished}
use Rattle.search.proofs.Applying.{as_fate, dropped_applied}
use Rattle.search.proofs.apply.apply.Goals as goal

pub returns-in-Dropped : goal.returns-in-Dropped
returns-in-Dropped g c =
    let r = c.args.rounds in
    dropped_applied g.M.Memory.keeps (masked c.args.snapshot.now) c.args.fate r.bound r.round c.args.from (entries_of c.args.stack.now)
    (entries_of c.settle.new.self) (entries_of c.go_on.new.stack) c.args.memory.now c.settle.new.memory c.go_on.result
    c.in-Dropped.is c.settle.ensures.stack c.settle.ensures.kept c.go_on.ensures

pub returns-in-Found : goal.returns-in-Found
returns-in-Found g c =
    let r = c.args.rounds in
    as_fate g.M.Memory.keeps (masked c.args.snapshot.now) c.args.fate _ r.bound r.round c.args.from (entries_of c.args.stack.now) (entries_of c.args.stack.now) c.args.memory.now c.args.memory.now _
    c.in-Found.is (record { machine = refl; kept = no_pair })

pub returns-in-Split : goal.returns-in-Split
returns-in-Split g c =
    let r = c.args.rounds in
    as_fate g.M.Memory.keeps (masked c.args.snapshot.now) c.args.fate _ r.bound r.round c.args.from (entries_of c.args.stack.now) (entries_of c.push_halves.new.self) c.args.memory.now c.args.memory.now _
    c.in-Split.is (record { machine = ap (λ es. record { stage = unfinished; bound = r.bound; round = r.round; entries = es }) c.push_halves.ensures; kept = no_pair })
