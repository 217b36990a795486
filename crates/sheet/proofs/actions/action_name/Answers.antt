use Rattle.std.proofs.Common.{Ok, sym, refl, ap, ◌∙◌, arith, rules, tests}
use Rattle.std.proofs.lemmas.Result.{err_from_is_err_and}
use Rattle.sheet.specs.Actions.{checked, named}
use Rattle.sheet.proofs.Answered.{agree_ok, agree_err, agree_at_ok, agree_at_err, accepted_from_map, refused_from_map}
use Rattle.sheet.proofs.ActionNames.{names_law, refused_sheet, no_action}
use Rattle.sheet.proofs.actions.action_name.Goals as goal

pub returns-in_err-sheet : goal.returns-in_err-sheet
returns-in_err-sheet c =
    let bs = c.args.sheet.now in
    let p = err_from_is_err_and c.from_residual.result c.from_residual.ensures.1 in
    let q = refused_from_map _ c.of.result c.map_err.result c.map_err.ensures.cases (λ e f q. search (rules, tests)) c.in_err-sheet.field-0.0 c.in_err-sheet.was in
    let v = agree_at_err _ (named bs c.args.action) _ _ (refused_sheet bs c.args.action q.0 (agree_err _ (checked bs) q.0 (rw q.1 at c.of.ensures))) (sym (p.2 ∙ q.2)) in
    rw p.1 (record { value = v; law = names_law bs c.args.action _ v })

pub returns-then-action-sheet : goal.returns-then-action-sheet
returns-then-action-sheet c =
    let bs = c.args.sheet.now in
    let s = c.in_ok-sheet.sheet in
    let e = accepted_from_map _ c.of.result c.map_err.result c.map_err.ensures.cases s c.in_ok-sheet.was in
    let p = agree_ok _ (checked bs) _ (rw e at c.of.ensures) in
    let v = agree_at_ok _ (named bs c.args.action) _ c.name.result (ap (λ b. named b c.args.action) (sym p.2.0) ∙ c.name.ensures.named) refl in
    record { value = v; law = names_law bs c.args.action (Ok c.name.result) v }

pub returns-else-action-sheet : goal.returns-else-action-sheet
returns-else-action-sheet c =
    let bs = c.args.sheet.now in
    let s = c.in_ok-sheet.sheet in
    let e = accepted_from_map _ c.of.result c.map_err.result c.map_err.ensures.cases s c.in_ok-sheet.was in
    let p = agree_ok _ (checked bs) _ (rw e at c.of.ensures) in
    let v = agree_at_err _ (named bs c.args.action) _ _ (no_action bs c.args.action p.0 s.counts p.1 p.2.1 (omega arith)) refl in
    record { value = v; law = names_law bs c.args.action _ v }
