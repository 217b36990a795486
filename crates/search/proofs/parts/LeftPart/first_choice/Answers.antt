use Rattle.std.proofs.Common.{◌≡◌, ◌<◌, Bool, true, false, ltb, take, sym, ap, ◌∙◌, arith, rules, length-take-le}
use Rattle.std.proofs.lemmas.Iterator.{IsFirst-from_position, YieldsList-from_slice}
use Rattle.std.proofs.lemmas.List.{get_or-take}
use Rattle.sets.specs.Counts.{count}
use Rattle.sets.specs.Sets.{among}
use Rattle.sets.specs.Sets.{ActionSet}
use Rattle.filter.specs.Parts.{no_actions, structure}
use Rattle.tasks.specs.Masked.{masked}
use Rattle.search.specs.Steps.{wide}
use Rattle.search.proofs.Lowest.{lowest_is}
use Rattle.search.proofs.Partial.{wide_stored}
use Rattle.search.proofs.parts.LeftPart.first_choice.Goals as goal

abbrev Many : Bool → ActionSet → Type 0
Many b s = ltb 1 (count (among s) 128) ≡ b

pub returns : goal.returns
returns c =
    let t = c.args.self in
    let m = masked t.snapshot.now in
    let p = t.part.now.part in
    let i = c.in_ok-step.step in
    let n = length-take-le p.round p.steps (omega (arith, p.wide, t.part.now.few)) in
    let first = IsFirst-from_position _ _ _ (Many true) (Many false) c.in_ok-step.ensures.ran (YieldsList-from_slice (take p.round p.steps) c.iter.ensures.rest) (λ x q k. search rules) (λ x q k. search rules) in
    let below : i < p.round = omega (arith, n, first.0) in (
      below,
      sym (lowest_is p.round (wide m (structure p)) i (omega arith)
          (λ _. wide_stored m p t.own i below ∙ ap (λ s. ltb 1 (count (among s) 128)) (sym (get_or-take p.round p.steps i no_actions below)) ∙ first.1 no_actions)
          (λ j l. wide_stored m p t.own j (omega arith) ∙ ap (λ s. ltb 1 (count (among s) 128)) (sym (get_or-take p.round p.steps j no_actions (omega arith))) ∙ first.2 j no_actions (omega arith) l)),
    )

pub returns-in_err-step : goal.returns-in_err-step
returns-in_err-step c =
    let t = c.args.self in
    let m = masked t.snapshot.now in
    let p = t.part.now.part in
    let n = length-take-le p.round p.steps (omega (arith, p.wide, t.part.now.few)) in
    let none = IsFirst-from_position _ _ _ (Many true) (Many false) c.in_err-step.ensures.ran (YieldsList-from_slice (take p.round p.steps) c.iter.ensures.rest) (λ x q k. search rules) (λ x q k. search rules) in
    rw c.from_residual.ensures (lowest_is p.round (wide m (structure p)) p.round (omega arith) (λ l. absurd (omega arith))
    (λ j l. wide_stored m p t.own j l ∙ ap (λ s. ltb 1 (count (among s) 128)) (sym (get_or-take p.round p.steps j no_actions l)) ∙ none j no_actions (omega arith) (omega (arith, n))))
