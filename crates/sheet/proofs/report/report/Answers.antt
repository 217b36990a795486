use Rattle.std.proofs.Common.{length, Ok, sym, refl, ap, ◌∙◌, arith, rules, tests}
use Rattle.std.proofs.lemmas.Result.{err_from_is_err_and}
use Rattle.sheet.specs.Actions.{checked}
use Rattle.sheet.specs.Report.{Written, report_text, text_for}
use Rattle.sheet.proofs.Answered.{agree_ok, agree_err, agree_at_err, accepted_from_map, refused_from_map}
use Rattle.sheet.proofs.Reporting.{not_blank, of_accepted, of_refused, reports, written_at}
use Rattle.sheet.proofs.report.report.Goals as goal

pub returns : goal.returns
returns c =
    let bs = c.args.sheet.now in
    let v = c.args.verdict in
    let plan = c.args.plan.now in
    let before = c.args.buffer.now in
    let s = c.in_ok-sheet.sheet in
    let k = s.counts in
    let e = accepted_from_map _ c.of.result c.map_err.result c.map_err.ensures.cases s c.in_ok-sheet.was in
    let p = agree_ok _ (checked bs) _ (rw e at c.of.ensures) in
    let told = of_accepted bs v plan (length before) (not_blank v c.in_default.not-Blank) (omega arith) p.0 k p.1 p.2.1 ∙ ap (λ b. text_for b k v plan) (sym p.2.0) in
    let t = agree_ok _ (text_for s.sheet.now k v plan) _ c.in_ok-text.ensures in
    let value : Written (report_text bs v plan (length before)) before c.write.new.buffer (Ok c.write.result) =
    written_at (report_text bs v plan (length before)) t.0 c.in_ok-text.text.items before _ _ (told ∙ t.1) t.2 c.write.ensures.value c.write.ensures.after in
    record { value = value; within = c.write.ensures.within; same = tt; law = reports bs v plan (length before) before _ _ value }

pub returns-in_err-text : goal.returns-in_err-text
returns-in_err-text c =
    let bs = c.args.sheet.now in
    let v = c.args.verdict in
    let plan = c.args.plan.now in
    let room = length c.args.buffer.now in
    let s = c.in_ok-sheet.sheet in
    let k = s.counts in
    let e = accepted_from_map _ c.of.result c.map_err.result c.map_err.ensures.cases s c.in_ok-sheet.was in
    let p = agree_ok _ (checked bs) _ (rw e at c.of.ensures) in
    let told = of_accepted bs v plan room (not_blank v c.in_default.not-Blank) (omega arith) p.0 k p.1 p.2.1 ∙ ap (λ b. text_for b k v plan) (sym p.2.0) in
    let q = err_from_is_err_and c.from_residual-in_err-text.result c.from_residual-in_err-text.ensures.1 in
    let t = agree_err _ (text_for s.sheet.now k v plan) _ c.in_err-text.ensures in
    rw q.1 (record { value = agree_at_err _ (report_text bs v plan room) _ _ (told ∙ t) (sym q.2); within = tt; same = refl; law = tt })

pub returns-in_err-sheet : goal.returns-in_err-sheet
returns-in_err-sheet c =
    let bs = c.args.sheet.now in
    let v = c.args.verdict in
    let plan = c.args.plan.now in
    let room = length c.args.buffer.now in
    let p = err_from_is_err_and c.from_residual.result c.from_residual.ensures.1 in
    let q = refused_from_map _ c.of.result c.map_err.result c.map_err.ensures.cases (λ e f q. search (rules, tests)) c.in_err-sheet.field-0.0 c.in_err-sheet.was in
    let e = agree_err _ (checked bs) q.0 (rw q.1 at c.of.ensures) in
    rw p.1 (record {
      value = agree_at_err _ (report_text bs v plan room) _ _ (of_refused bs v plan room (not_blank v c.in_default.not-Blank) (omega arith) q.0 e) (sym (p.2 ∙ q.2));
      within = tt;
      same = refl;
      law = tt;
    })
