use Rattle.std.proofs.Common.{Ok, refl, subst}
use Rattle.memories.specs.Pairs.{recalls}
use Rattle.tasks.specs.Bundle.{meaning}
use Rattle.tasks.specs.Meaning.{Meaning}
use Rattle.search.specs.Calls.{Advanced}
use Rattle.search.specs.Runs.Run.{advances}
use Rattle.search.specs.Stepped.{Gone, machine_of}
use Rattle.search.proofs.Forgetting.{forget_advancing}
use Rattle.search.proofs.record.Search.advance.Goals as goal

pub returns : goal.returns
returns g c =
    let m = meaning g.T.Task c.args.task.now in
    let recall = (λ (x : g.row.M.Denot). recalls (g.M.Memory.has x)) in
    let hopeless = g.E.Estimator.hopeless c.args.estimator.now in
    let S = machine_of c.args.self.now in
    let x = c.args.memory.now in
    let S' = machine_of c.go.new.self in
    let x' = c.go.new.memory in
    let gone = subst (λ (t : Meaning). Gone g.M.Memory g.E.Estimator t c.args.estimator.now c.args.amount S x S' x' c.go.result) c.of-snapshot.ensures.value c.go.ensures in
    let does : Advanced g.row.M.Denot (λ y. recalls (g.M.Memory.has y)) g.M.Memory.keeps m (hopeless m) c.args.amount S x S' x' c.go.result = record {
      allowed = c.in_ok-admit.ensures;
      steps = gone.steps;
      few = gone.few;
      all = gone.all;
    } in
    record {
      does = does;
      run = λ n run. advances run c.args.amount (Ok c.go.result)
          (forget_advancing g.row.M.Denot g.M.Memory.has (λ y. recalls (g.M.Memory.has y)) g.M.Memory.keeps (λ y s k. refl) (λ y s k z. g.met.M.Memory.invents_nothing y z s k) m (hopeless m) c.args.amount S x S' x' (Ok c.go.result) does);
    }
