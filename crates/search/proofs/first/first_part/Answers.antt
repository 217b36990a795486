use Rattle.std.proofs.Common.{replicate, refl, arith}
use Rattle.std.proofs.lemmas.List.{get_or-replicate}
use Rattle.tasks.specs.Bundle.{meaning}
use Rattle.filter.specs.Parts.{no_actions}
use Rattle.filter.specs.declared.part.Part.{Part}
use Rattle.search.proofs.Firsts.{first_structure}
use Rattle.search.proofs.first.first_part.Goals as goal

pub returns : goal.returns
returns g c =
    let m = meaning g.T.Task c.args.task.now in
    let r = c.args.rounds in
    let usable = c.usable_actions.result in
    let p : Part = record { round = r.round; steps = replicate 30 usable; levels = c.first_levels.result; wide = refl; long = c.first_levels.ensures.long } in
    first_structure m (g.met.T.Task.lawful c.args.task.now) p usable (omega (arith, r.within, r.small)) c.usable_actions.ensures (λ i h. get_or-replicate 30 i usable no_actions h) c.first_levels.ensures.value
