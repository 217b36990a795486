use Rattle.std.proofs.Common.{[], ◌∷◌, ◌++◌, sym, refl, ap, ◌∙◌, append_assoc}
use Rattle.search.specs.Calls.Keeps.{no_pair}
use Rattle.search.specs.Entries.{below_pairs, entries_of, pairs_on_top}
use Rattle.search.proofs.Settling.{keeps_push, no_pairs}
use Rattle.search.proofs.stack.Stack.settle.Goals as goal

pub loop-pair-init : goal.loop-pair-init
loop-pair-init g c = record { below = refl; kept = ([], refl, no_pair) }

pub loop-pair-preserved : goal.loop-pair-preserved
loop-pair-preserved g c =
    let e = c.in-Some.ensures in
    let was = c.loop-pair.invariant.kept in
    let p = c.in-Some.pair in
    record {
      below = sym (ap below_pairs e) ∙ c.loop-pair.invariant.below;
      kept = (
        was.0 ++ (p.state, p.left) ∷ [],
        was.1 ∙ ap (λ es. was.0 ++ pairs_on_top es) e ∙ sym (append_assoc was.0 ((p.state, p.left) ∷ []) (pairs_on_top (entries_of c.take_pair.new.self))),
        keeps_push g.M.Memory.keeps was.0 c.args.memory.now c.loop-pair.memory c.keep.new.self p.state p.left was.2 c.keep.ensures.after,
      );
    }

pub returns-clause-stack : goal.returns-clause-stack
returns-clause-stack g c =
    let t = c.in_default.ensures in
    ap entries_of t.0 ∙ sym (no_pairs (entries_of c.loop-pair.self) t.1) ∙ c.loop-pair.invariant.below
