-- What an estimator may say.
use Rattle.std.specs.Prelude.{◌≡◌, ℕ, Bool, true}
use Rattle.tasks.specs.Meaning.{Meaning}
use Rattle.tasks.specs.States.{Hopeless}

-- It says "hopeless" of a state and a number left only where no sequence of up to that many actions reaches the goals from there.
abbrev pub Sound : Meaning → (ℕ → ℕ → Bool) → Type 0
Sound m hopeless = (s n : ℕ) → hopeless s n ≡ true → Hopeless m s n
