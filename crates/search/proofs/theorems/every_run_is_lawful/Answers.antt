use Rattle.search.proofs.Running.{every_run_is_lawful, what_plan_writes}
use Rattle.search.proofs.theorems.every_run_is_lawful.Goals as goal

pub returns : goal.returns
returns c = record { law = every_run_is_lawful; plan = what_plan_writes }
