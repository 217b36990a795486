use Rattle.std.proofs.Common.{◌++◌, ap, ◌∙◌, arith}
use Rattle.std.specs.List.{flat_map}
use Rattle.std.proofs.lemmas.List.{take_all}
use Rattle.sheet.specs.Actions.{action_name}
use Rattle.sheet.specs.Report.{ended}
use Rattle.sheet.proofs.verdicts.put_names.Goals as goal

pub returns : goal.returns
returns c =
    c.loop-action.invariant.2
    ∙ ap (λ p. c.args.text.now.items ++ flat_map (λ a. ended (action_name c.args.sheet.sheet.now c.args.sheet.counts.facts a)) p) (take_all c.loop-action.action-index c.args.plan.now (omega arith))
