-- What a restarted task means, and what making one answers.
use Rattle.std.specs.Prelude.{◌≡◌, true, List, ℤ, Ok, Err, Result}
use Rattle.sets.specs.Bits.{bit}
use Rattle.tasks.specs.declared.restart.Restart.{Restart}
use Rattle.tasks.specs.declared.refusal.Refusal.{Refusal}
use Rattle.tasks.specs.declared.refusal.Refusal.TheVariants.{Literal}
use Rattle.tasks.specs.declared.task.Task.{Ghosts}
use Rattle.tasks.specs.Bundle.{meaning}
use Rattle.tasks.specs.Meaning.{Meaning}
use Rattle.tasks.specs.Restarts.{Within, Apart, seen, restarted}

abbrev pub restart_meaning : {T : Type 0} → Ghosts T → Restart T → Meaning
restart_meaning g t = restarted (bit t.truths) (meaning g t.below)

-- The task starts as listed, unlisted facts false; or the list is refused, and the task is handed back.
abbrev pub Restarted : {T : Type 0} → Ghosts T → T → List ℤ → Result (Restart T) (Refusal × T) → Type 0
Restarted g t literals (Ok r) =
    Within (g.facts t) literals × Apart literals
    × (restart_meaning g r ≡ restarted (λ f. seen literals f true) (meaning g t))
Restarted g t literals (Err e) = (e.0 ≡ Literal) × (Within (g.facts t) literals × Apart literals → ⊥) × (e.1 ≡ t)
