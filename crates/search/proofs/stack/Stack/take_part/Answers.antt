use Rattle.std.proofs.Common.{List, [], ◌∷◌, ◌++◌, vec_items, sym, ap, ◌∙◌, subst}
use Rattle.search.specs.declared.entry.Entry as stored
use Rattle.search.specs.declared.entry.Entry.TheVariants.{Open, Pending}
use Rattle.search.specs.Depths.{Topped}
use Rattle.search.specs.Entries.{entries_of}
use Rattle.search.specs.Machines.{Entry}
use Rattle.search.proofs.Settling.{entries_push}
use Rattle.search.proofs.stack.Stack.take_part.Goals as goal

pub unreachable-requires-in-Pending : goal.unreachable-requires-in-Pending
unreachable-requires-in-Pending c =
    let here = vec_items c.pop.new.self in
    subst (λ (es : List Entry). Topped es)
    (ap entries_of (sym c.self.view_is ∙ c.in-Some.ensures.items ∙ ap (λ (e : stored.Entry). here ++ e ∷ []) c.in-Pending.is) ∙ entries_push here (Pending _))
    c.requires

pub returns : goal.returns
returns c =
    let here = vec_items c.pop.new.self in
    ap entries_of (sym c.self.view_is ∙ c.in-Some.ensures.items ∙ ap (λ (e : stored.Entry). here ++ e ∷ []) c.in-Open.is) ∙ entries_push here (Open c.in-Open.open)
