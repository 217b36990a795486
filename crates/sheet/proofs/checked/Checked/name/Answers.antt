use Rattle.std.proofs.Common.{◌+◌, [], length, get_or, Ok, sym, refl, ap, ◌∙◌, arith}
use Rattle.std.proofs.lemmas.Iterator.Consumers.{YieldsList-from_first, nth_from_yields_List}
use Rattle.sheet.specs.Lines.{lines}
use Rattle.sheet.specs.Readers.{to_come}
use Rattle.sheet.specs.Words.{words}
use Rattle.sheet.proofs.ActionNames.{accepted_by_counts, accepted_limits, its_name, short_name}
use Rattle.sheet.proofs.Yields.{nth_or_empty}
use Rattle.sheet.proofs.checked.Checked.name.Goals as goal

pub overflow_add-self : goal.overflow_add-self
overflow_add-self c = let s = c.args.self in let l = accepted_limits s.sheet.now s.counts (accepted_by_counts s.sheet.now s.counts s.accepted) in omega (arith, l.1)

pub overflow_add-self-2 : goal.overflow_add-self-2
overflow_add-self-2 c = let s = c.args.self in let l = accepted_limits s.sheet.now s.counts (accepted_by_counts s.sheet.now s.counts s.accepted) in omega (arith, l.1, l.2, c.requires)

pub returns : goal.returns
returns c =
    let s = c.args.self in
    let bs = s.sheet.now in
    let ls = lines bs in
    let k = 1 + s.counts.facts + c.args.action in
    let its = ap (λ x. x.now) c.unwrap_or.ensures
    ∙ nth_or_empty c.nth-line.result _ ls k refl (nth_from_yields_List c.nth-line.result c.nth-line.new.self k c.nth-line.ensures.ran (YieldsList-from_first (λ x. x.now) to_come ls c.of.ensures)) in
    let is = c.second.ensures ∙ ap (λ l. get_or (words l) 1 []) its in
    let p = accepted_by_counts bs s.counts s.accepted in
    record {
      value = is;
      named = its_name bs c.args.action p.0 s.counts p.1 p.2 c.requires ∙ ap Ok (sym is);
      within = omega (arith, ap length is, short_name bs s.counts p c.args.action c.requires);
    }
