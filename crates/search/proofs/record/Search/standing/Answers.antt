use Rattle.std.proofs.Common.{ap}
use Rattle.search.specs.declared.stage.Stage as stored
use Rattle.search.specs.Parts.{actions_of}
use Rattle.search.specs.Stepped.{machine_of}
use Rattle.search.specs.Stored.{stage_of}
use Rattle.search.proofs.Running.{every_run_is_lawful}
use Rattle.search.proofs.record.Search.standing.Goals as goal

pub returns-in-Found-clause-law : goal.returns-in-Found-clause-law
returns-in-Found-clause-law c P m h n run stands =
    (every_run_is_lawful (machine_of c.args.self.now) P m h n run).shortest (actions_of c.in-Found.plan) (ap (λ (s : stored.Stage). stage_of s) c.in-Found.is)
