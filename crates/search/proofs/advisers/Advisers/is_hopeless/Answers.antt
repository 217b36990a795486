use Rattle.std.proofs.Common.{◌-◌, ◌||◌, [], None, sym, ap, ◌∙◌}
use Rattle.std.proofs.lemmas.Bool.{or_left}
use Rattle.filter.specs.Parts.{structure}
use Rattle.filter.specs.Plans.{state_of}
use Rattle.memories.specs.Pairs.{recalls}
use Rattle.tasks.specs.Masked.{masked}
use Rattle.search.proofs.Telling.{told_is}
use Rattle.search.proofs.advisers.Advisers.is_hopeless.Goals as goal

pub returns-then-recall : goal.returns-then-recall
returns-then-recall g c =
    let s = c.args.self.now in
    let m = masked c.args.part.snapshot.now in
    let p = c.args.part.part.now.part in
    let recall = recalls (g.M.Memory.has s.memory.now) in
    let hopeless = g.E.Estimator.hopeless s.estimator.now m in
    let left = p.round - c.args.level in
    let is = c.state_at-state.ensures in
    c.if-recall.true ∙ sym (told_is m recall hopeless 0 p.round None (structure p) [] c.args.level
    ∙ or_left (recall (state_of m (structure p) c.args.level) left) _ (ap (λ x. recall x left) (sym is) ∙ sym c.if-recall.ensures.value))

pub returns-else-recall : goal.returns-else-recall
returns-else-recall g c =
    let s = c.args.self.now in
    let m = masked c.args.part.snapshot.now in
    let p = c.args.part.part.now.part in
    let recall = recalls (g.M.Memory.has s.memory.now) in
    let hopeless = g.E.Estimator.hopeless s.estimator.now m in
    let left = p.round - c.args.level in
    let is = c.state_at-state.ensures in
    c.hopeless.ensures.value ∙ ap (λ x. hopeless x left) is
    ∙ ap (λ b. b || hopeless (state_of m (structure p) c.args.level) left) (c.if-recall.ensures.value ∙ ap (λ x. recall x left) is)
    ∙ sym (told_is m recall hopeless 0 p.round None (structure p) [] c.args.level)
