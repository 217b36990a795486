use Rattle.std.proofs.Common.{refl, ap, ◌∙◌}
use Rattle.std.proofs.lemmas.Iterator.Consumers.{YieldsList-from_first, nth_from_yields_List}
use Rattle.sheet.specs.Readers.{left}
use Rattle.sheet.specs.Words.{words}
use Rattle.sheet.proofs.Yields.{nth_or_empty}
use Rattle.sheet.proofs.names.second.Goals as goal

pub returns : goal.returns
returns c =
    let ws = words c.args.line.now in
    ap (λ x. x.now) c.unwrap_or.ensures
    ∙ nth_or_empty c.nth.result _ ws 1 refl (nth_from_yields_List c.nth.result c.nth.new.self 1 c.nth.ensures.ran (YieldsList-from_first (λ x. x.now) left ws c.of.ensures))
