use Rattle.std.proofs.Common.{◌≡◌, ◌^◌, ◌<◌, min, false, not, ◌&&◌, ltb, ap, ap₂, ◌∙◌, arith, rules}
use Rattle.sets.specs.Sets.{has, member}
use Rattle.tasks.proofs.Acting.{after_packed}
use Rattle.tasks.proofs.states.after.Goals as goal

pub returns : goal.returns
unfolding has member
returns g c =
    let t = c.args.task.now in
    let makes = c.row.result.makes in
    let small : c.common.result.bits < 2 ^ 64 = search rules in
    let least : min c.facts.result 64 ≡ g.T.Task.facts t = omega (arith, c.facts.ensures, (g.met.T.Task.lawful t).facts_most) in
    record {
      value = after_packed (g.T.Task.facts t) (g.T.Task.makes t c.args.a) makes c.args.state c.common.result.bits (g.met.T.Task.lawful t).facts_most small c.row.ensures.makes (λ f.
          c.common.ensures.value f
          ∙ ap₂ (λ x y. x && y) (c.without-left.ensures.value f ∙ ap (λ b. b && not (has makes f false)) (c.union.ensures.value f)) (c.below.ensures.value f ∙ ap (ltb f) least));
    }
