use Rattle.filter.proofs.Singles.{level_state, single_plan}
use Rattle.filter.proofs.Tracing.{traced, loses_none}
use Rattle.filter.proofs.Uniqueness.{one_result}
use Rattle.filter.proofs.theorems.laws.Goals as goal

pub returns : goal.returns
returns c = record { unique = one_result; trace = traced; kept = loses_none; states = level_state; plan = single_plan }
