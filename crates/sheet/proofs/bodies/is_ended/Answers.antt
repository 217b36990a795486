use Rattle.std.proofs.Common.{◌≡◌, suc, ◌-◌, length, sym, ◌∙◌, arith, rules, tests}
use Rattle.sheet.proofs.LineCuts.{ended_by_last, last_is}
use Rattle.sheet.proofs.bodies.is_ended.Goals as goal

pub returns-else-is_empty : goal.returns-else-is_empty
returns-else-is_empty c =
    let bs = c.args.sheet.now in
    let i = length bs - 1 in
    let full : length bs ≡ suc i = grind (arith, rules, tests, c.is_empty.ensures, c.if-is_empty.false) in
    c.ends_with.ensures.value ∙ last_is bs i full ∙ sym (ended_by_last bs i full)
