use Rattle.search.proofs.Deepening.{short, put_up_shallow, stays_shallow}
use Rattle.search.proofs.Topping.{stays_topped, stays_within}
use Rattle.search.proofs.theorems.the_stack_stays_short.Goals as goal

pub returns : goal.returns
returns c = record { short = short; first = put_up_shallow; step = stays_shallow; top = stays_topped; bound = stays_within }
