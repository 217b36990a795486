use Rattle.std.proofs.Common.{◌≡◌, true, false}
use Rattle.std.proofs.lemmas.Bool.{both_ways}
use Rattle.sets.specs.Sets.{has}
use Rattle.sets.proofs.Membership.{both}
use Rattle.sets.proofs.literals.Literals.is_empty.Goals as goal

pub returns-then-is_empty : goal.returns-then-is_empty
unfolding has
returns-then-is_empty c =
    record {
      value = (
        λ e f. both (λ v. has c.args.self f v ≡ false) (c.is_empty.ensures.value.0 c.if-is_empty.true f) (c.is_empty-then-is_empty.ensures.value.0 e f),
        λ h. c.is_empty-then-is_empty.ensures.value.1 (λ f. h f false),
      );
    }

pub returns-else-is_empty : goal.returns-else-is_empty
unfolding has
returns-else-is_empty c = record { value = (λ e. absurd (both_ways c.is_empty.result c.if-is_empty.false e), λ h. c.is_empty.ensures.value.1 (λ f. h f true)) }
