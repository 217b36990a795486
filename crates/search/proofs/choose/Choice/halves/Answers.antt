use Rattle.std.proofs.Common.{◌≡◌, Bool, true, false, not, ◌&&◌, refl, ap, ◌∙◌}
use Rattle.sets.specs.Sets.{among}
use Rattle.filter.specs.Parts.{step_at, structure}
use Rattle.tasks.specs.Masked.{masked}
use Rattle.search.specs.Steps.{best_below, first_half}
use Rattle.search.proofs.choose.Choice.halves.Goals as goal

left_over : (x d : Bool) → (x && not (x && d)) ≡ (x && not d)
left_over true d = refl
left_over false d = refl

pub returns : goal.returns
returns c =
    let s = c.args.self in
    let w = s.within in
    let m = masked w.snapshot.now in
    let p = w.part.now.part in
    let q = structure p in
    let i = s.step in
    let d = first_half m q i (best_below m q i m.facts) in
    let taken = c.first_half-taken.ensures in
    record {
      step = refl;
      state = c.state_at.ensures;
      first = c.half.ensures d taken;
      second = c.half-2.ensures (λ a. not (d a))
          (λ a. c.without-rest.ensures.value a ∙ ap (λ b. among (step_at p i) a && not b) (taken a) ∙ left_over (among (step_at p i) a) (d a));
    }
