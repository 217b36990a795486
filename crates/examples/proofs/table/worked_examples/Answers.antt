-- Each row is computed: the run of its steps, a count or a recall.
use Rattle.std.proofs.Common.{refl}
use Rattle.sets.specs.Bits.{bit}
use Rattle.sets.specs.Counts.{count}
use Rattle.tasks.specs.States.{packed}
use Rattle.memories.specs.Pairs.{recalls_below}
use Rattle.memories.specs.Rows.{among, keep_row}
use Rattle.estimators.specs.Ranges.{all_below, most_below}
use Rattle.estimators.specs.GoalCounts.{missing_count, gains, goal_count}
use Rattle.search.specs.Steps.{first_part, put_up, over, settle, lowest_from, lowest, some_below, wide, plan_from, falsifies, distance, better, best_below, first_half, half, earlier, told, below_halves, split, asked, looked, next}
use Rattle.examples.specs.Jobs.{bake_and_copy, copy_from_dry_and_threaded, copy_without_baking, no_way_to_both, nothing_to_do, stay_unthreaded, tied_facts, told_at_the_split}
use Rattle.examples.proofs.Running.{ends}
use Rattle.examples.proofs.table.worked_examples.Goals as goal

pub returns : goal.returns
unfolding bit count packed recalls_below among keep_row all_below most_below missing_count gains goal_count first_part put_up over settle lowest_from lowest some_below wide plan_from falsifies distance better best_below first_half half earlier told below_halves split asked looked next
returns c = record {
  eleven_steps_leave_the_copy_open = ends bake_and_copy 4 11 refl;
  twelve_steps_find_the_copy = ends bake_and_copy 4 12 refl;
  the_copy_has_a_ceiling_of_677 = refl;
  five_steps_leave_three_actions_open = ends bake_and_copy 3 5 refl;
  six_steps_rule_out_three_actions = ends bake_and_copy 3 6 refl;
  one_step_finds_that_the_goal_holds = ends stay_unthreaded 4 1 refl;
  nothing_is_copied_without_baking = ends copy_without_baking 4 5 refl;
  what_was_seen_shortens_the_plan = ends copy_from_dry_and_threaded 4 5 refl;
  thirty_steps_leave_the_last_round = ends nothing_to_do 30 30 refl;
  each_round_takes_a_step_without_actions = ends nothing_to_do 30 31 refl;
  three_goals_are_missing = refl;
  an_action_gains_one_goal = refl;
  two_actions_are_hopeless = refl;
  three_actions_are_not_hopeless = refl;
  the_memory_recalls_its_pair = refl;
  the_memory_recalls_less_left = refl;
  the_memory_recalls_no_more_left = refl;
  the_memory_recalls_no_other_state = refl;
  thirty_seven_steps_find_no_way_to_both = ends no_way_to_both 4 37 refl;
  eight_steps_break_the_tie = ends tied_facts 4 8 refl;
  six_steps_ask_at_the_split = ends told_at_the_split 4 6 refl;
}
