use Rattle.std.proofs.Common.{◌≡◌, ◌<◌, List, ◌∷◌, length, vec_items, vec_capacity, sym, ap, ◌∙◌, subst, arith}
use Rattle.search.specs.declared.entry.Entry as stored
use Rattle.search.specs.declared.stack.TheConstants.{MOST_ENTRIES}
use Rattle.search.specs.Entries.{entries_of, entry_of}
use Rattle.search.proofs.Settling.{entries_length, entries_push}
use Rattle.search.proofs.stack.Stack.push.Goals as goal

pub push_reserved-requires : goal.push_reserved-requires
push_reserved-requires c =
    let v = c.self.inside.entries in
    let few : length (entries_of (vec_items v)) < MOST_ENTRIES = subst (λ (es : List stored.Entry). length (entries_of es) < MOST_ENTRIES) (sym c.self.view_is) c.requires in
    let room : vec_capacity v ≡ MOST_ENTRIES = c.self.invariant in
    let len = v.ok.0 in
    omega (arith, entries_length (vec_items v))

pub returns : goal.returns
returns c =
    ap entries_of c.push_reserved.ensures.items ∙ entries_push (vec_items c.self.inside.entries) c.args.entry ∙ ap (λ (es : List stored.Entry). entry_of c.args.entry ∷ entries_of es) c.self.view_is
