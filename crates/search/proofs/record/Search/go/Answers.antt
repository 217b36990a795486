use Rattle.std.proofs.Common.{◌≡◌, ℕ, ◌+◌, sym, refl, subst, arith}
use Rattle.memories.specs.Pairs.{recalls}
use Rattle.tasks.specs.Masked.{masked}
use Rattle.search.specs.Calls.{Steps}
use Rattle.search.specs.Calls.Steps.{no_step, one_more}
use Rattle.search.specs.Machines.{Machine}
use Rattle.search.specs.Stepped.{machine_of}
use Rattle.search.proofs.record.Search.go.Goals as goal

pub loop-made-init : goal.loop-made-init
loop-made-init g c = no_step

pub loop-made-preserved : goal.loop-made-preserved
loop-made-preserved g c =
    let m = masked c.args.snapshot.now in
    let done = c.step.ensures in
    subst (λ (S : Machine). Steps g.row.M.Denot (λ x. recalls (g.M.Memory.has x)) g.M.Memory.keeps m (g.E.Estimator.hopeless c.args.estimator.now m) (c.loop-made.made + 1) (machine_of c.args.self.now) c.args.memory.now S c.step.new.memory)
    (sym done.machine) (one_more c.loop-made.invariant done.step done.kept)

pub returns : goal.returns
returns g c =
    let m = masked c.args.snapshot.now in
    let all : c.loop-made.made ≡ c.args.amount = omega arith in
    record {
      steps = subst (λ (n : ℕ). Steps g.row.M.Denot (λ x. recalls (g.M.Memory.has x)) g.M.Memory.keeps m (g.E.Estimator.hopeless c.args.estimator.now m) n (machine_of c.args.self.now) c.args.memory.now (machine_of c.loop-made.self) c.loop-made.memory)
          all c.loop-made.invariant;
      few = omega arith;
      all = λ _. refl;
    }
