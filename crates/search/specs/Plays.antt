-- What playing a list of calls answers.
use Rattle.std.specs.Prelude.{◌≡◌, ℕ, List, [], length, Ok, Err, vec_items, Result}
use Rattle.estimators.specs.declared.estimator.Estimator as estimator
use Rattle.memories.specs.declared.memory.Memory as memory
use Rattle.tasks.specs.Meaning.{Meaning}
use Rattle.search.specs.declared.call.Call.{Call}
use Rattle.search.specs.declared.play.Played.{Played}
use Rattle.search.specs.declared.play.Unplayed.{Unplayed}
use Rattle.search.specs.declared.play.Unplayed.TheVariants.{NotBlank, NoRoom}
use Rattle.search.specs.Machines.{Machine, Stage}
use Rattle.search.specs.Machines.Stage.{blank, unfinished, found, none}
use Rattle.search.specs.Parts.{actions_of}
use Rattle.search.specs.Played.{Calls, StandsLawfully, tally, untouched}
use Rattle.search.specs.Runs.{verdict_of}

-- The plan that stands; it is empty where none does.
abbrev pub plan_standing : Stage → List ℕ
plan_standing blank = []
plan_standing unfinished = []
plan_standing (found plan) = plan
plan_standing none = []

module _ {X Y : Type 0} (M : memory.Ghosts X) (E : estimator.Ghosts Y) (m : Meaning) (e : Y) where
  -- The calls were made on a blank search, each answered what its contract says, what then stands is told, and it keeps the law.
  pub record AllMade (calls : List Call) (S : Machine) (x : X) (S' : Machine) (x' : X) (p : Played) : Type 0 where
    pub fresh : S.stage ≡ blank
    pub one_each : length (vec_items p.answers) ≡ length calls
    pub made : Calls M E m e calls (vec_items p.answers) S x S' x'
    pub told : p.verdict ≡ verdict_of S'.stage S'.bound
    pub written : actions_of p.plan ≡ plan_standing S'.stage
    pub law : StandsLawfully m (tally untouched calls (vec_items p.answers)) p.verdict (actions_of p.plan)

  -- No call was made: the search is not blank, or there is no room for the answers.
  abbrev pub WhyNot : Unplayed → Machine → Type 0
  WhyNot NotBlank S = S.stage ≡ blank → ⊥
  WhyNot NoRoom S = S.stage ≡ blank

  abbrev pub PlayedOut : List Call → Machine → X → Machine → X → Result Played Unplayed → Type 0
  PlayedOut calls S x S' x' (Ok p) = AllMade calls S x S' x' p
  PlayedOut calls S x S' x' (Err why) = WhyNot why S × (S' ≡ S) × (x' ≡ x)
