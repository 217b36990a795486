use Rattle.std.proofs.Common.{◌≡◌, ℕ, ◌+◌, ◌<◌, length, get_or, ◌++◌, [], ◌∷◌, Bool, true, Option, Some, None, MatchOption, unwrap_or, sym, ap, ◌∙◌, subst, arith, length-take-le, length-append}
use Rattle.std.proofs.lemmas.Bool.{both_ways}
use Rattle.std.proofs.lemmas.List.{get_or-take}
use Rattle.sets.specs.Counts.{Empty, Lowest}
use Rattle.sets.specs.Sets.{among}
use Rattle.sets.specs.Sets.{ActionSet}
use Rattle.filter.specs.Parts.{no_actions, structure}
use Rattle.tasks.specs.Masked.{masked}
use Rattle.search.specs.Steps.{lowest, plan_from}
use Rattle.search.proofs.Planning.{lowest_stored, plan_more, some_action}
use Rattle.search.proofs.parts.LeftPart.plan.Goals as goal

lowest_told : (o : Option ℕ) (g : ℕ → Bool) → MatchOption o (Empty g) (Lowest g) → (a : ℕ) → g a ≡ true → Lowest g (unwrap_or o 0)
lowest_told None g none a e = absurd (both_ways (g a) (none a) e)
lowest_told (Some b) g low a e = low

pub loop-step-init : goal.loop-step-init
unfolding plan_from
loop-step-init c = record { long = ap length c.new-plan.ensures; within = omega arith; lowest = c.new-plan.ensures }

pub loop-step-preserved : goal.loop-step-preserved
loop-step-preserved c =
    let s = c.args.self in
    let m = masked s.snapshot.now in
    let p = s.part.now.part in
    let i = c.loop-step.step-index in
    let inside : i < p.round = omega (arith, c.loop-step-test.true, length-take-le p.round p.steps (omega (arith, p.wide, s.part.now.few))) in
    record {
      long = ap length c.push.ensures ∙ length-append _ _ ∙ ap (λ n. n + 1) c.loop-step.invariant.long;
      within = omega arith;
      lowest =
          let w = some_action m p s.own i inside s.consistent in
          let here = get_or-take p.round p.steps i no_actions inside in
          let told = c.unwrap_or.ensures ∙ lowest_stored m p s.own i inside (unwrap_or c.lowest.result 0)
          (lowest_told c.lowest.result (among (get_or p.steps i no_actions)) (subst (λ (s : ActionSet). MatchOption c.lowest.result (Empty (among s)) (Lowest (among s))) here c.lowest.ensures.value) w.0 w.1) in
          let same : i ≡ 0 + i = omega arith in
          c.push.ensures ∙ ap (λ xs. xs ++ c.unwrap_or.result ∷ []) c.loop-step.invariant.lowest
          ∙ ap (λ a. plan_from m (structure p) i 0 ++ a ∷ []) (told ∙ ap (λ j. lowest m.actions ((structure p).left j)) same) ∙ sym (plan_more m (structure p) i 0);
    }
