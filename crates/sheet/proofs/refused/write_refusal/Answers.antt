use Rattle.std.proofs.Common.{◌≡◌, ltb, ◌∷◌, [], ◌++◌, length, codes, decimal, ap, ◌∙◌, arith}
use Rattle.std.proofs.lemmas.Bool.{cond-false, le-ltb}
use Rattle.sheet.specs.Faults.{number}
use Rattle.sheet.specs.Report.{ended, line_of, refusal_text}
use Rattle.sheet.proofs.Reporting.{written_at}
use Rattle.sheet.proofs.refused.write_refusal.Goals as goal

pub returns-clause-value : goal.returns-clause-value
returns-clause-value c =
    let r = c.args.refusal in
    let room = length c.args.buffer.now in
    let N = codes "refused " ++ decimal (number r.fault) in
    let L = codes " line " ++ decimal (line_of r) in
    let one : c.put_labelled.new.text.items ≡ N = c.put_labelled.ensures.value ∙ (λ i. c.new-text.ensures i ++ (codes "refused " ++ decimal ((c.from.ensures ∙ c.number.ensures.value) i))) in
    let two : c.put_labelled-2.new.text.items ≡ N ++ L = c.put_labelled-2.ensures.value ∙ (λ i. one i ++ (codes " line " ++ decimal (c.told_line.ensures.value i))) in
    written_at (refusal_text r room) (ended (N ++ L)) c.put.new.text.items c.args.buffer.now _ _ (cond-false (ltb room 800) _ _ (le-ltb room 800 (omega arith)))
    (c.put.ensures ∙ ap (λ x. x ++ 10 ∷ []) two) c.write.ensures.value c.write.ensures.after
