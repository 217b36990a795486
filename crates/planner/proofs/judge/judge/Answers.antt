use Rattle.std.proofs.Common.{◌+◌, ◌*◌, arith}
use Rattle.memories.specs.Pairs.{recalls}
use Rattle.tasks.specs.Masked.{masked}
use Rattle.tasks.specs.Masking.{masked_lawful}
use Rattle.search.specs.Parts.{actions_of}
use Rattle.search.specs.Stepped.{machine_of}
use Rattle.planner.proofs.Judging.{advance_is_ok, driven_on, judged, opened_right, opening_is_ok}
use Rattle.planner.proofs.judge.judge.Goals as goal

pub loop-init : goal.loop-init
loop-init g c =
    let m = masked c.args.job.now.task in
    let h = g.E.Estimator.hopeless c.args.estimator.now m in
    let sound = g.met.E.Estimator.sound c.args.estimator.now m (masked_lawful c.args.job.now.task) in
    opened_right g.row.M.Denot g.M.Memory.empties m h c.args.job.now.bound (machine_of c.in_ok-search.search) (machine_of c.open.new.self) c.args.memory.now c.open.new.memory (g.M.Memory.has c.open.new.memory)
    c.open.result c.in_ok-search.ensures.value c.args.job.now.few c.open.ensures.does c.open.ensures.run sound

pub loop-preserved : goal.loop-preserved
loop-preserved g c =
    let m = masked c.args.job.now.task in
    let h = g.E.Estimator.hopeless c.args.estimator.now m in
    let n = c.loop.counter * 1000000 in
    driven_on g.row.M.Denot (λ y. recalls (g.M.Memory.has y)) g.M.Memory.keeps m h c.args.job.now.bound n ((c.loop.counter + 1) * 1000000) (machine_of c.loop.search) (machine_of c.advance.new.self)
    (g.M.Memory.has c.loop.memory) (g.M.Memory.has c.advance.new.memory) c.loop.memory c.advance.new.memory c.advance.result c.loop.invariant c.advance.ensures.does c.advance.ensures.run (omega arith)

pub unwrap-requires : goal.unwrap-requires
unwrap-requires g c =
    let m = masked c.args.job.now.task in
    opening_is_ok g.row.M.Denot g.M.Memory.empties m c.args.job.now.bound (machine_of c.in_ok-search.search) (machine_of c.open.new.self) c.args.memory.now c.open.new.memory
    c.open.result c.in_ok-search.ensures.value c.args.job.now.few c.open.ensures.does

pub unwrap-requires-in-loop : goal.unwrap-requires-in-loop
unwrap-requires-in-loop g c =
    let m = masked c.args.job.now.task in
    let h = g.E.Estimator.hopeless c.args.estimator.now m in
    advance_is_ok g.row.M.Denot (λ y. recalls (g.M.Memory.has y)) g.M.Memory.keeps m h (machine_of c.loop.search) (machine_of c.advance.new.self)
    c.loop.memory c.advance.new.memory c.advance.result c.loop.invariant.begun c.advance.ensures.does

pub returns : goal.returns
returns g c =
    let m = masked c.args.job.now.task in
    let h = g.E.Estimator.hopeless c.args.estimator.now m in
    let n = c.loop.counter * 1000000 in
    let P = g.M.Memory.has c.loop.memory in
    let run = c.loop.invariant.run in
    record {
      value = judged m c.args.job.now.bound (machine_of c.loop.search) P h n c.verdict.result (actions_of c.standing.result) c.loop.invariant (omega arith) c.standing.ensures.value
          (c.verdict.ensures.within P m h n run) (c.verdict.ensures.law P m h n run) c.verdict.ensures.value;
    }
