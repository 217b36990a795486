use Rattle.std.proofs.Common.{◌≡◌, ℕ, min, not, ◌&&◌, ltb, replicate, refl, ap, ◌∙◌, arith}
use Rattle.std.proofs.lemmas.List.{get_or-replicate}
use Rattle.sets.specs.Bits.{bit}
use Rattle.sets.specs.Signs.{is}
use Rattle.tasks.specs.Bundle.{meaning}
use Rattle.filter.specs.Parts.{no_literals}
use Rattle.search.proofs.Firsts.{first_levels, task_start_level}
use Rattle.search.proofs.first.first_levels.Goals as goal

pub returns-clause-value : goal.returns-clause-value
returns-clause-value g c =
    let m = meaning g.T.Task c.args.task.now in
    let law = g.met.T.Task.lawful c.args.task.now in
    let facts : c.facts-facts.result ≡ m.facts = c.facts-facts.ensures in
    let all : min c.facts-facts.result 64 ≡ m.facts = omega (arith, law.facts_most) in
    let r = c.args.rounds in
    first_levels m r.round (replicate 31 c.all-levels.result) c.all-levels.result c.of_state.result _ c.opposites.result c.without.result
    (omega (arith, r.within, r.small)) refl (λ i h. get_or-replicate 31 i c.all-levels.result no_literals h)
    (λ f v. c.all-levels.ensures.value f v ∙ ap (ltb f) all)
    (λ f v. c.of_state.ensures.value f v ∙ ap (λ (n : ℕ). ltb f (min n 64) && is v (bit c.start_state.result f)) facts
    ∙ task_start_level m law c.start_state.result f v c.start_state.ensures)
    refl
    (λ f v. c.opposites.ensures.value f v ∙ c.goals.ensures f (not v))
    c.without.ensures.value
