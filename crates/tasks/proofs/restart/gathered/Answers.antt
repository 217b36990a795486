use Rattle.std.proofs.Common.{◌≡◌, ◌<◌, length, get_or, ℤ, pos, subst, arith, w8, SFits, rules}
use Rattle.std.proofs.lemmas.Int.{to_z-of_z}
use Rattle.tasks.specs.Restarts.{Fresh, Joined}
use Rattle.tasks.specs.declared.refusal.Refusal.TheVariants as refusal
use Rattle.tasks.proofs.Seeing.{read_more, not_fresh}
use Rattle.tasks.proofs.restart.gathered.Goals as goal

pub loop-number-preserved : goal.loop-number-preserved
loop-number-preserved c =
    let ls = c.args.numbers.now in
    let i = c.loop-number.number-index in
    let inside : i < length ls = omega arith in
    let fits : SFits w8 (get_or ls i (pos 0)) = search rules in
    let P : ℤ → Type 0 = λ z. Fresh c.args.facts c.loop-number.set z × Joined c.loop-number.set z c.in_ok-set.set in
    let j = subst P (to_z-of_z w8 (get_or ls i (pos 0)) fits) c.in_ok-set.ensures in
    read_more c.args.facts ls i c.loop-number.set c.loop-number.invariant inside c.in_ok-set.set j.0 j.1

pub returns-in_err-set : goal.returns-in_err-set
returns-in_err-set c =
    let ls = c.args.numbers.now in
    let i = c.loop-number.number-index in
    let inside : i < length ls = omega arith in
    let fits : SFits w8 (get_or ls i (pos 0)) = search rules in
    let P : ℤ → Type 0 = λ z. Fresh c.args.facts c.loop-number.set z → ⊥ in
    let stale : Fresh c.args.facts c.loop-number.set (get_or ls i (pos 0)) → ⊥ = subst P (to_z-of_z w8 (get_or ls i (pos 0)) fits) c.in_err-set.ensures.1 in
    let refused = not_fresh c.args.facts ls i c.loop-number.set c.loop-number.invariant inside stale in
    let is : c.in_err-set.field-0.0 ≡ refusal.Literal = c.in_err-set.ensures.0 in
    search rules
