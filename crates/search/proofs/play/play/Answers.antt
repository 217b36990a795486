use Rattle.std.proofs.Common.{◌≡◌, ℕ, List, [], vec_items, sym, refl, ◌∙◌, subst₂, arith}
use Rattle.std.proofs.lemmas.Grind.{common_steps}
use Rattle.tasks.specs.Bundle.{meaning}
use Rattle.search.specs.declared.verdict.Verdict.{Verdict}
use Rattle.search.specs.Played.{StandsLawfully, tally, untouched}
use Rattle.search.specs.Stepped.{machine_of}
use Rattle.search.proofs.Playing.{all_called, calls_all, calls_begin, calls_more}
use Rattle.search.proofs.Standing.{blank_told, stands_lawfully}
use Rattle.search.proofs.play.play.Goals as goal

pub loop-call-init : goal.loop-call-init
loop-call-init g c =
    let v = c.in_ok-answers.answers in
    let none : vec_items v ≡ [] = grind (arith, common_steps) in
    record {
      within = omega arith;
      one_each = grind (arith, common_steps);
      room = refl;
      made = calls_begin g.M.Memory g.E.Estimator (meaning g.T.Task c.args.task.now) c.args.estimator.now (vec_items v) (machine_of c.args.search.now) c.args.memory.now none;
    }

pub loop-call-preserved : goal.loop-call-preserved
loop-call-preserved g c =
    record {
      within = omega arith;
      one_each = omega (arith, c.push_reserved.ensures.len, c.loop-call.invariant.one_each);
      room = c.push_reserved.ensures.capacity ∙ c.loop-call.invariant.room;
      made = calls_more g.M.Memory g.E.Estimator (meaning g.T.Task c.args.task.now) c.args.estimator.now
          c.args.calls.now c.loop-call.call-index _ (vec_items c.loop-call.answers) (vec_items c.push_reserved.new.self) c.make_call.result
          (machine_of c.args.search.now) (machine_of c.loop-call.search) (machine_of c.make_call.new.search) c.args.memory.now c.loop-call.memory c.make_call.new.memory
          (omega arith) c.push_reserved.ensures.items c.loop-call.invariant.made c.make_call.ensures;
    }

pub returns : goal.returns
returns g c =
    let m = meaning g.T.Task c.args.task.now in
    let h = g.E.Estimator.hopeless c.args.estimator.now m in
    let lawful = g.met.T.Task.lawful c.args.task.now in
    let S = machine_of c.args.search.now in
    let S' = machine_of c.loop-call.search in
    let x' = c.loop-call.memory in
    let answers = vec_items c.loop-call.answers in
    let t = tally untouched c.args.calls.now answers in
    let fresh = blank_told S.stage S.bound (sym c.in-Blank.ensures.value) in
    let made = calls_all g.M.Memory g.E.Estimator m c.args.estimator.now
    c.args.calls.now c.loop-call.call-index answers S S' c.args.memory.now x' (omega arith) c.loop-call.invariant.made in
    let all = all_called g.M.Memory (λ y s k z. g.met.M.Memory.invents_nothing y z s k) g.met.M.Memory.forgets_all g.E.Estimator m lawful c.args.estimator.now
    (g.met.E.Estimator.sound c.args.estimator.now m lawful) made fresh in
    let within = c.verdict-2.ensures.within (g.M.Memory.has x') m h t.amount all.1.run in
    let plan = c.standing.ensures.value in
    record {
      value = record {
        fresh = fresh;
        one_each = all.0;
        made = made;
        told = c.verdict-2.ensures.value;
        written = plan;
        law = subst₂ (λ (v : Verdict) (p : List ℕ). StandsLawfully m t v p) (sym c.verdict-2.ensures.value) (sym plan)
            (stands_lawfully m t S' all.1.fits (c.verdict-2.ensures.law (g.M.Memory.has x') m h t.amount all.1.run) within);
      };
      run = all.1.run;
    }
