use Rattle.std.proofs.Common.{◌≡◌, ltb, take, sym, ◌∙◌, arith, rules, tests}
use Rattle.std.proofs.lemmas.Iterator.{YieldsList-from_slice}
use Rattle.std.proofs.lemmas.Iterator.Search.{all_from_yields_List}
use Rattle.sheet.specs.Report.{below}
use Rattle.sheet.proofs.Reporting.{fits_by_numbers}
use Rattle.sheet.proofs.verdicts.is_plan.Goals as goal

pub returns : goal.returns
returns c =
    let plan = c.args.plan.now in
    let n = c.args.count in
    let all : c.all.result ≡ below c.args.actions (take n plan) = all_from_yields_List (λ a. ltb a c.args.actions) _ _ _ c.all.ensures.ran (YieldsList-from_slice (take n plan) cc) (λ x b q k. search (rules, tests)) in
    record {
      value = all ∙ sym (fits_by_numbers c.args.actions n plan (omega arith) (omega arith));
      within = λ e. (omega arith, omega arith, sym all ∙ e);
    }
