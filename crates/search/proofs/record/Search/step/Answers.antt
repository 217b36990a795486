use Rattle.std.proofs.Common.{sym, subst}
use Rattle.filter.specs.Parts.{structure}
use Rattle.memories.specs.Pairs.{recalls}
use Rattle.tasks.specs.Masked.{masked}
use Rattle.tasks.specs.Masking.{masked_lawful}
use Rattle.search.specs.Entries.{entries_of}
use Rattle.search.specs.Fates.{effect}
use Rattle.search.specs.Machines.{Machine}
use Rattle.search.specs.Stepped.{machine_of}
use Rattle.search.specs.Stored.{KeptUp}
use Rattle.search.proofs.Stepping.{outcome}
use Rattle.search.proofs.record.Search.step.Goals as goal

pub apply-standing-requires : goal.apply-standing-requires
apply-standing-requires g c =
    let s = c.args.self.now in
    let m = masked c.args.snapshot.now in
    let top = c.take_part-open.result in
    let rest = entries_of c.take_part-open.new.self in
    let out = outcome m (recalls (g.M.Memory.has c.args.memory.now)) (g.E.Estimator.hopeless c.args.estimator.now m) (machine_of s) (structure top.part.part) top.from rest c.decide-fate.result
    c.requires c.take_part-open.ensures c.decide-fate.ensures (masked_lawful c.args.snapshot.now).actions_most s.kept s.rounds.within s.rounds.small in
    record { step = out.within; room = out.room }

pub invariant_of-self : goal.invariant_of-self
invariant_of-self g c =
    let s = c.args.self.now in
    let m = masked c.args.snapshot.now in
    let top = c.take_part-open.result in
    let rest = entries_of c.take_part-open.new.self in
    let out = outcome m (recalls (g.M.Memory.has c.args.memory.now)) (g.E.Estimator.hopeless c.args.estimator.now m) (machine_of s) (structure top.part.part) top.from rest c.decide-fate.result
    c.requires c.take_part-open.ensures c.decide-fate.ensures (masked_lawful c.args.snapshot.now).actions_most s.kept s.rounds.within s.rounds.small in
    record { kept = subst (λ (S : Machine). ∥ KeptUp S.stage S.round S.entries ∥₁) (sym c.apply-standing.ensures.machine) out.kept }

pub returns : goal.returns
returns g c =
    let s = c.args.self.now in
    let m = masked c.args.snapshot.now in
    let top = c.take_part-open.result in
    let rest = entries_of c.take_part-open.new.self in
    let out = outcome m (recalls (g.M.Memory.has c.args.memory.now)) (g.E.Estimator.hopeless c.args.estimator.now m) (machine_of s) (structure top.part.part) top.from rest c.decide-fate.result
    c.requires c.take_part-open.ensures c.decide-fate.ensures (masked_lawful c.args.snapshot.now).actions_most s.kept s.rounds.within s.rounds.small in
    record {
      made = effect m c.decide-fate.result s.rounds.bound s.rounds.round top.from rest;
      step = out.step;
      machine = c.apply-standing.ensures.machine;
      kept = c.apply-standing.ensures.kept;
    }
