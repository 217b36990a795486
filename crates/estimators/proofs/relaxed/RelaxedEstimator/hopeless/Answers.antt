use Rattle.std.proofs.Common.{◌≡◌, ℕ, min, not, ◌&&◌, ltb, sym, ap, ◌∙◌, arith}
use Rattle.sets.specs.Bits.{bit}
use Rattle.sets.specs.Sets.{has}
use Rattle.sets.specs.Signs.{is}
use Rattle.tasks.specs.Bundle.{meaning}
use Rattle.estimators.specs.Layers.{layer_at, inside, relaxed}
use Rattle.estimators.proofs.Growing.{first_is, goals_in, next_is, had_before, never_had}
use Rattle.estimators.proofs.relaxed.RelaxedEstimator.hopeless.Goals as goal

pub loop-init : goal.loop-init
loop-init g c = λ f v.
    c.of_state-layer.ensures.value f v
    ∙ ap (λ (n : ℕ). ltb f (min n 64) && is v (bit c.args.state f)) c.facts.ensures
    ∙ first_is (meaning g.T.Task c.args.task.now) c.args.state (g.met.T.Task.lawful c.args.task.now) f v

pub loop-preserved : goal.loop-preserved
loop-preserved g c = λ f v.
    c.grown-next.ensures.value f v
    ∙ next_is (meaning g.T.Task c.args.task.now) c.args.state c.loop.counter (has c.loop.layer) c.loop.invariant f v

pub returns-then-lies_in : goal.returns-then-lies_in
returns-then-lies_in g c =
    let t = meaning g.T.Task c.args.task.now in
    let law = g.met.T.Task.lawful c.args.task.now in
    let within = goals_in t c.args.state law c.loop.counter c.goals-goals.result c.loop.layer c.lies_in.result c.goals-goals.ensures c.loop.invariant c.lies_in.ensures.value in
    record { value = had_before t c.args.state c.loop.counter c.args.left (omega arith) (sym within ∙ c.if-lies_in.true) }

pub returns-then-lies_in-2 : goal.returns-then-lies_in-2
returns-then-lies_in-2 g c =
    let t = meaning g.T.Task c.args.task.now in
    let law = g.met.T.Task.lawful c.args.task.now in
    let within = goals_in t c.args.state law c.loop.counter c.goals-goals.result c.loop.layer c.lies_in.result c.goals-goals.ensures c.loop.invariant c.lies_in.ensures.value in
    let next = next_is t c.args.state c.loop.counter (has c.loop.layer) c.loop.invariant in
    record {
      value = never_had t c.args.state c.loop.counter c.args.left (omega arith)
          (λ f v e. sym (c.loop.invariant f v) ∙ c.lies_in-in-loop.ensures.value.0 c.if-lies_in-2.true f v (c.grown-next.ensures.value f v ∙ next f v ∙ e))
          (sym within ∙ c.if-lies_in.false);
    }

pub returns : goal.returns
unfolding relaxed
returns g c =
    let t = meaning g.T.Task c.args.task.now in
    let law = g.met.T.Task.lawful c.args.task.now in
    let last : c.loop.counter ≡ c.args.left = omega arith in
    let within = goals_in t c.args.state law c.loop.counter c.goals-goals.result c.loop.layer c.lies_in-2.result c.goals-goals.ensures c.loop.invariant c.lies_in-2.ensures.value in
    record { value = ap not within ∙ ap (λ (n : ℕ). not (inside t.facts t.goal (layer_at t c.args.state n))) last }
