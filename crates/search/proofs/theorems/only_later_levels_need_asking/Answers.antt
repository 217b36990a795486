use Rattle.search.proofs.Ordering.{put_up_ordered, stays_ordered}
use Rattle.search.proofs.Skipping.{begins_fresh, stays_fresh, later_only}
use Rattle.search.proofs.theorems.only_later_levels_need_asking.Goals as goal

pub returns : goal.returns
returns c = record { first = put_up_ordered; order = stays_ordered; nothing = begins_fresh; answers = stays_fresh; later = later_only }
