use Rattle.std.proofs.Common.{◌≡◌, [], ◌∷◌, ◌++◌, vec_items, sym, ap, ◌∙◌}
use Rattle.search.specs.declared.entry.Entry as stored
use Rattle.search.specs.declared.entry.Entry.TheVariants.{Open, Pending}
use Rattle.search.specs.Entries.{entries_of, pairs_on_top}
use Rattle.search.proofs.Settling.{entries_push}
use Rattle.search.proofs.stack.Stack.take_pair.Goals as goal

pub returns-in-Pending : goal.returns-in-Pending
returns-in-Pending c =
    let here = vec_items c.pop.new.self in
    let was : c.args.self.now ≡ here ++ Pending c.in-Pending.pair ∷ [] = sym c.self.view_is ∙ c.in_ok-pair.ensures.items ∙ ap (λ (e : stored.Entry). here ++ e ∷ []) c.in-Pending.is in
    ap entries_of was ∙ entries_push here (Pending c.in-Pending.pair)

pub returns-in-Open : goal.returns-in-Open
returns-in-Open c =
    let here = vec_items c.pop.new.self in
    let was : c.args.self.now ≡ here ++ Open c.in-Open.open ∷ [] = sym c.self.view_is ∙ c.in_ok-pair.ensures.items ∙ ap (λ (e : stored.Entry). here ++ e ∷ []) c.in-Open.is in
    (c.push_reserved.ensures.items ∙ sym was, ap (λ es. pairs_on_top (entries_of es)) was ∙ ap pairs_on_top (entries_push here (Open c.in-Open.open)))
