-- The tasks of the worked examples, each as tables: a row of cells for each action, a cell for each fact.
use Rattle.std.specs.Prelude.{true, List, [], ◌∷◌, ℤ, pos, negsuc}
use Rattle.tasks.specs.Meaning.{Meaning}
use Rattle.tasks.specs.Tables.{table_task}
use Rattle.tasks.specs.Bans.{banned, listed}
use Rattle.tasks.specs.Restarts.{restarted, seen}

-- In the tables, y says true, n says false, and o says nothing.
abbrev y : ℤ
y = pos 1

abbrev n : ℤ
n = negsuc 0

abbrev o : ℤ
o = pos 0

-- Bake and copy. Facts: dry, threaded, copied. Actions: bake, thread, copy, unthread. Bake needs the part not threaded and makes
-- it dry; thread needs it not threaded and makes it threaded; copy needs it dry and threaded and makes it copied; unthread needs
-- it threaded and makes it not threaded.
abbrev pub baking_needs : List ℤ
baking_needs = o ∷ n ∷ o ∷ o ∷ n ∷ o ∷ y ∷ y ∷ o ∷ o ∷ y ∷ o ∷ []

abbrev pub baking_makes : List ℤ
baking_makes = y ∷ o ∷ o ∷ o ∷ y ∷ o ∷ o ∷ o ∷ y ∷ o ∷ n ∷ o ∷ []

-- All facts start false.
abbrev pub baking_start : List ℤ
baking_start = n ∷ n ∷ n ∷ []

-- The part is to be copied and not threaded.
abbrev pub baking_goal : List ℤ
baking_goal = o ∷ n ∷ y ∷ []

abbrev pub bake_and_copy : Meaning
bake_and_copy = table_task 3 4 baking_needs baking_makes baking_start baking_goal

-- The same with the goal "not threaded" alone, which holds from the start.
abbrev pub stay_unthreaded : Meaning
stay_unthreaded = table_task 3 4 baking_needs baking_makes baking_start (o ∷ n ∷ o ∷ [])

-- The same without baking.
abbrev pub copy_without_baking : Meaning
copy_without_baking = banned (listed (0 ∷ [])) bake_and_copy

-- The same from where the part was seen dry and threaded.
abbrev pub copy_from_dry_and_threaded : Meaning
copy_from_dry_and_threaded = restarted (λ f. seen (pos 1 ∷ pos 2 ∷ []) f true) bake_and_copy

-- One fact that starts false and is to be true, and no action.
abbrev pub nothing_to_do : Meaning
nothing_to_do = table_task 1 0 [] [] (n ∷ []) (y ∷ [])

-- Three goals that start false, and an action for each.
abbrev pub three_goals : Meaning
three_goals = table_task 3 3
    (o ∷ o ∷ o ∷ o ∷ o ∷ o ∷ o ∷ o ∷ o ∷ [])
    (y ∷ o ∷ o ∷ o ∷ y ∷ o ∷ o ∷ o ∷ y ∷ [])
    (n ∷ n ∷ n ∷ [])
    (y ∷ y ∷ y ∷ [])

-- No plan: the last two facts are to be true, and each action that makes one of them true makes the other false or needs it false.
abbrev pub no_way_to_both : Meaning
no_way_to_both = table_task 3 4
    (o ∷ o ∷ o ∷ o ∷ n ∷ o ∷ o ∷ o ∷ o ∷ o ∷ o ∷ n ∷ [])
    (o ∷ n ∷ n ∷ o ∷ o ∷ y ∷ n ∷ n ∷ y ∷ y ∷ y ∷ o ∷ [])
    (y ∷ n ∷ n ∷ [])
    (o ∷ y ∷ y ∷ [])

-- Facts that divide the actions equally well.
abbrev pub tied_facts : Meaning
tied_facts = table_task 3 3
    (n ∷ o ∷ o ∷ o ∷ o ∷ n ∷ o ∷ o ∷ o ∷ [])
    (o ∷ n ∷ o ∷ y ∷ o ∷ n ∷ n ∷ y ∷ o ∷ [])
    (y ∷ y ∷ n ∷ [])
    (y ∷ n ∷ o ∷ [])

-- A part that is dropped for the level at which it would be split.
abbrev pub told_at_the_split : Meaning
told_at_the_split = table_task 3 6
    (y ∷ o ∷ o ∷ o ∷ o ∷ o ∷ o ∷ o ∷ o ∷ o ∷ o ∷ n ∷ o ∷ o ∷ o ∷ o ∷ o ∷ o ∷ [])
    (n ∷ o ∷ o ∷ o ∷ o ∷ o ∷ o ∷ o ∷ n ∷ y ∷ n ∷ y ∷ o ∷ o ∷ o ∷ o ∷ y ∷ o ∷ [])
    (y ∷ n ∷ y ∷ [])
    (n ∷ y ∷ n ∷ [])
