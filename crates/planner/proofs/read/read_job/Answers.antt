use Rattle.std.proofs.Common.{◌*◌, ◌≤◌, replicate, pos, Result, ap, ◌∙◌, subst, arith}
use Rattle.std.proofs.lemmas.Nat.{mul-le}
use Rattle.std.proofs.lemmas.Result.{err_from_is_err_and}
use Rattle.tasks.specs.declared.masks.Masks.{Masks}
use Rattle.tasks.specs.declared.refusal.Refusal.{Refusal}
use Rattle.tasks.specs.Tabled.{Tabled}
use Rattle.tasks.specs.Tables.{table_task}
use Rattle.sheet.specs.declared.counts.Counts.{Counts}
use Rattle.sheet.specs.Sheet.{Tables, tables_of}
use Rattle.planner.proofs.Spreading.{room, refused_as, read_as, same_task}
use Rattle.planner.proofs.Tasking.{is_made}
use Rattle.planner.proofs.read.read_job.Goals as goal

abbrev blank : Tables
blank = tables_of (replicate 8192 (pos 0)) (replicate 8192 (pos 0)) (replicate 64 (pos 0)) (replicate 64 (pos 0))

pub returns-in_err-counts : goal.returns-in_err-counts
returns-in_err-counts c =
    let after = tables_of c.read.new.needs c.read.new.makes c.read.new.start c.read.new.goal in
    let q = err_from_is_err_and c.from_residual.result c.from_residual.ensures.1 in
    rw (q.1, q.2) (record {
      value = record {
        first = refused_as c.args.sheet.now blank after c.in_err-counts.field-0.0 c.in_err-counts.ensures.value (room 8192 64 (omega arith) (omega arith));
        no_sheet = c.in_err-counts.ensures.law;
      };
    })

pub unwrap-task-requires : goal.unwrap-task-requires
unwrap-task-requires c =
    let k = c.in_ok-counts.counts in
    let r = c.in_ok-counts.ensures.ranges in
    let most : k.actions * k.facts ≤ 128 * 64 = mul-le k.actions k.facts 128 64 r.limits.2 r.limits.1 in
    is_made k.facts k.actions c.read.new.needs c.read.new.makes c.read.new.start c.read.new.goal (r.limits.0, r.limits.1, r.limits.2)
    (omega (arith, most), omega (arith, most), omega (arith, r.limits.1), omega (arith, r.limits.1)) (r.needs_ranged, r.makes_ranged, r.start_ranged, r.goal_ranged)
    c.from_tables.result c.from_tables.ensures

pub returns : goal.returns
returns c =
    let k = c.in_ok-counts.counts in
    let after = tables_of c.read.new.needs c.read.new.makes c.read.new.start c.read.new.goal in
    let p = read_as c.args.sheet.now blank after k c.in_ok-counts.ensures.value (room 8192 64 (omega arith) (omega arith)) in
    let x = p.0 in
    let made = subst (λ (r : Result Masks Refusal). Tabled k.facts k.actions after.needs after.makes after.start after.goal r) c.unwrap-task.ensures c.from_tables.ensures in
    record {
      value = record {
        said = x;
        accepted = p.1;
        bound = ap (λ (j : Counts). j.bound) p.2;
        task = made.3 ∙ ap (λ (t : Tables). table_task k.facts k.actions t.needs t.makes t.start t.goal) p.3
            ∙ same_task k.facts k.actions x.tables blank made.0
            ∙ ap (λ (j : Counts). table_task j.facts j.actions x.tables.needs x.tables.makes x.tables.start x.tables.goal) p.2;
      };
    }
