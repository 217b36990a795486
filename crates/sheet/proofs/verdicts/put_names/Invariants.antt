use Rattle.std.proofs.Common.{◌≡◌, ◌+◌, ◌*◌, ◌≤◌, true, ◌++◌, length, take, drop}
use Rattle.std.specs.List.{flat_map}
use Rattle.sheet.specs.Actions.{action_name}
use Rattle.sheet.specs.Report.{below, ended}
use Rattle.sheet.proofs.verdicts.put_names.Given as goal

abbrev pub invariant-loop-action : goal.invariant-loop-action
invariant-loop-action l =
    (length l.text.items ≤ length l.initial.text.items + 25 * l.action-index)
    × (below l.sheet.counts.actions (drop l.action-index l.plan) ≡ true)
    × (l.text.items ≡ l.initial.text.items ++ flat_map (λ a. ended (action_name l.sheet.sheet.now l.sheet.counts.facts a)) (take l.action-index l.plan))
