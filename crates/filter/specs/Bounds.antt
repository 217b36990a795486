-- Which parts are bounded.
use Rattle.std.specs.Prelude.{◌≡◌, ◌<◌, ◌≤◌, Ok, Err, Result}
use Rattle.filter.specs.declared.part.Part.{Part}
use Rattle.filter.specs.declared.part.BoundedPart.{BoundedPart}
use Rattle.filter.specs.declared.refusal.Refusal.{Refusal}
use Rattle.filter.specs.declared.refusal.Refusal.TheVariants.{Round}

-- A part of a round up to 30 is taken as it is; a higher round is refused.
abbrev pub Bounds : Part → Result BoundedPart Refusal → Type 0
Bounds p (Ok b) = (p.round ≤ 30) × (b.part ≡ p)
Bounds p (Err e) = (30 < p.round) × (e ≡ Round)
