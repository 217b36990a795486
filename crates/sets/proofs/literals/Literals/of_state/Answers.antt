use Rattle.std.proofs.Common.{Bool, not, ◌&&◌, ap, ◌∙◌}
use Rattle.sets.specs.Bits.{bit}
use Rattle.sets.specs.Sets.{has, member}
use Rattle.sets.proofs.Membership.{both}
use Rattle.sets.proofs.literals.Literals.of_state.Goals as goal

pub returns : goal.returns
unfolding has member
returns c =
    let s = c.args.state in
    record {
      value = λ f. both _
          (c.common.ensures.value f ∙ ap (λ (b : Bool). b && bit s f) (c.below-set.ensures.value f))
          (c.without.ensures.value f ∙ ap (λ (b : Bool). b && not (bit s f)) (c.below-set.ensures.value f));
    }
