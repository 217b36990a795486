-- What a ban means, and what making one answers.
use Rattle.std.specs.Prelude.{◌≡◌, ℕ, List, Ok, Err, Result}
use Rattle.sets.specs.Sets.{among}
use Rattle.tasks.specs.declared.ban.Ban.{Ban}
use Rattle.tasks.specs.declared.refusal.Refusal.{Refusal}
use Rattle.tasks.specs.declared.refusal.Refusal.TheVariants.{Action}
use Rattle.tasks.specs.declared.task.Task.{Ghosts}
use Rattle.tasks.specs.Bans.{banned, listed, AllBelow}
use Rattle.tasks.specs.Bundle.{meaning}
use Rattle.tasks.specs.Meaning.{Meaning}

abbrev pub ban_meaning : {T : Type 0} → Ghosts T → Ban T → Meaning
ban_meaning g b = banned (among b.banned) (meaning g b.below)

-- The listed actions are banned; or one is not below the number of actions, and the task is handed back.
abbrev pub Banned : {T : Type 0} → Ghosts T → T → List ℕ → Result (Ban T) (Refusal × T) → Type 0
Banned g t out (Ok b) = AllBelow (g.actions t) out × (ban_meaning g b ≡ banned (listed out) (meaning g t))
Banned g t out (Err e) = (e.0 ≡ Action) × (AllBelow (g.actions t) out → ⊥) × (e.1 ≡ t)
