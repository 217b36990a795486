use Rattle.std.proofs.Common.{◌^◌, ◌<◌, ◌&&◌, ap, ◌∙◌, rules}
use Rattle.sets.specs.Bits.{bit}
use Rattle.sets.specs.Sets.{member}
use Rattle.tasks.proofs.Starting.{start_packed}
use Rattle.tasks.proofs.start.within.Goals as goal

pub returns : goal.returns
unfolding member
returns c =
    let fits : c.args.state < 2 ^ 64 = search rules in
    let small : c.common.result.bits < 2 ^ 64 = search rules in
    start_packed c.args.facts c.args.state c.common.result.bits fits small
    (λ f. c.common.ensures.value f ∙ ap (λ b. bit c.args.state f && b) (c.below.ensures.value f))
