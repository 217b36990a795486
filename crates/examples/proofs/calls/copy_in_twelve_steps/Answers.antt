-- Each advance makes the steps that compute from where the call before it left the search.
use Rattle.std.proofs.Common.{◌≡◌, ℕ, [], None, refl, ap, ◌∙◌}
use Rattle.sets.specs.Bits.{bit}
use Rattle.sets.specs.Counts.{count}
use Rattle.tasks.specs.Masked.{masked}
use Rattle.tasks.specs.States.{packed}
use Rattle.memories.specs.Pairs.{recalls_below}
use Rattle.memories.specs.Rows.{among, keep_row}
use Rattle.estimators.specs.Ranges.{all_below, most_below}
use Rattle.estimators.specs.GoalCounts.{missing_count, gains, goal_count}
use Rattle.search.specs.declared.call.Call.TheVariants.{Open}
use Rattle.search.specs.Machines.{Stage, Machine}
use Rattle.search.specs.Machines.Stage.{blank, unfinished, found, none}
use Rattle.search.specs.Calls.{refusal}
use Rattle.search.specs.Runs.{verdict_of}
use Rattle.search.specs.Stepped.{machine_of}
use Rattle.search.specs.Steps.{first_part, put_up, over, settle, lowest_from, lowest, some_below, wide, plan_from, falsifies, distance, better, best_below, first_half, half, earlier, told, below_halves, split, asked, looked, next}
use Rattle.examples.specs.Jobs.{bake_and_copy}
use Rattle.examples.proofs.Calling.{opening_is, advance_from}
use Rattle.examples.proofs.Computing.{run}
use Rattle.examples.proofs.calls.copy_in_twelve_steps.Goals as goal

opens : (g : Stage) (old : ℕ) → refusal g old (Open 4) ≡ None
opens blank old = refl
opens unfinished old = refl
opens (found plan) old = refl
opens none old = refl

pub returns : goal.returns
unfolding bit count packed recalls_below among keep_row all_below most_below missing_count gains goal_count first_part put_up over settle lowest_from lowest some_below wide plan_from falsifies distance better best_below first_half half earlier told below_halves split asked looked next
returns c =
    let m₀ = masked c.baking-task.result in
    let same : m₀ ≡ bake_and_copy = c.baking-task.ensures.value in
    let S₁ = machine_of c.open.new.self in
    let S₂ = machine_of c.advance-first.new.self in
    let S₃ = machine_of c.advance-second.new.self in
    let o = opening_is bake_and_copy m₀ same 4 opens (machine_of c.args.search.now) S₁ c.args.memory.now c.open.new.memory c.open.result c.open.ensures.does in
    let u = advance_from bake_and_copy m₀ same 11 (λ old. refl) (put_up bake_and_copy 4 0) refl S₂ c.open.new.memory c.advance-first.new.memory [] refl o.1 S₁ o.0 c.advance-first.result c.advance-first.ensures.does in
    let v = advance_from bake_and_copy m₀ same 1 (λ old. refl) (run bake_and_copy 4 11).machine refl S₃ c.advance-first.new.memory c.advance-second.new.memory (run bake_and_copy 4 11).rows refl u.2 S₂ u.1 c.advance-second.result c.advance-second.ensures.does in
    record {
      eleven_steps_are_made = u.0;
      then_it_is_unfinished = c.verdict-between.ensures.value ∙ ap (λ (M : Machine). verdict_of M.stage M.bound) u.1;
      one_step_is_made = v.0;
      then_a_plan_of_four_stands = c.verdict-end.ensures.value ∙ ap (λ (M : Machine). verdict_of M.stage M.bound) v.1;
      it_is_bake_thread_copy_unthread = ap (λ (M : Machine). M.stage) v.1;
      one_pair_was_kept = v.2;
    }
