use Rattle.std.proofs.Common.{ℕ, true, ap, subst}
use mathlib.Core.Path.{fun_ext}
use Rattle.sets.specs.Sets.{has, member}
use Rattle.tasks.specs.Bundle.{meaning}
use Rattle.tasks.specs.Restarts.{Within, restarted}
use Rattle.tasks.proofs.restart.Restart.new.Goals as goal

pub returns-in-Ok : goal.returns-in-Ok
unfolding has member
returns-in-Ok g c =
    let read = c.in-Ok.ensures in (
      subst (λ (n : ℕ). Within n c.args.literals.now) c.facts.ensures read.0,
      read.1,
      ap (λ b. restarted b (meaning g.T.Task c.args.below)) (fun_ext (λ f. read.2 f true)),
    )
