use Rattle.std.proofs.Common.{ℕ, List, ◌++◌, drop, sym, ap, ◌∙◌, ap₂, arith}
use Rattle.std.proofs.lemmas.Grind.{common_steps}
use Rattle.search.specs.declared.stage.Stage as stored
use Rattle.search.specs.Calls.{Planned}
use Rattle.search.specs.Stepped.{machine_of}
use Rattle.search.specs.Parts.{actions_of}
use Rattle.search.specs.Stored.{stage_of}
use Rattle.search.proofs.Running.{what_plan_writes}
use Rattle.search.proofs.record.Search.plan.Goals as goal

pub returns : goal.returns
returns c =
    let S = machine_of c.args.self.now in
    let b = c.args.buffer.now in
    let b' = c.copy_from_slice.new.self ++ drop c.len.result b in
    let does : Planned S b b' c.len-2.result = record {
      plan = actions_of c.in-Found.plan;
      stands = ap (λ (s : stored.Stage). stage_of s) c.in-Found.is;
      long = c.len-2.ensures.value;
      room = grind (arith, common_steps);
      written = ap₂ (λ (xs : List ℕ) (n : ℕ). xs ++ drop n b) (c.copy_from_slice.ensures.after ∙ c.as_slice.ensures.value) (c.len.ensures.value ∙ sym c.len-2.ensures.value);
    } in
    record { does = does; run = λ P m h n run. run; law = λ P m h n run. what_plan_writes S P m h n run b b' c.len-2.result does }
