use Rattle.std.proofs.Common.{◌≡◌, ◌-◌, ◌*◌, suc, [], Ok, sym, ap, ◌∙◌, arith}
use Rattle.std.proofs.lemmas.Result.{err_from_is_err_and}
use Rattle.sheet.specs.Readers.{to_come}
use Rattle.sheet.specs.Bodies.{pair, acts}
use Rattle.sheet.proofs.Answered.{agree_ok, agree_err, agree_at_err}
use Rattle.sheet.proofs.Acting.{refused, more}
use Rattle.sheet.proofs.bodies.+acts.Goals as goal

pub returns-in_err-pair : goal.returns-in_err-pair
returns-in_err-pair t c =
    let q = err_from_is_err_and c.from_residual.result c.from_residual.ensures.1 in
    let F = c.args.facts in
    let n = c.args.line in
    let ls = to_come c.args.lines.now in
    let k : c.args.count ≡ suc (c.args.count - 1) = omega (arith, c.if-count-eq0.false) in
    let e = ap (λ f. pair n f ls) (sym c.split_at_mut-need.ensures.front_len) ∙ agree_err _ (pair n _ ls) _ c.in_err-pair.ensures.value in
    rw q.1 (agree_at_err _ (acts F n c.args.count [] [] ls) c.in_err-pair.field-0.0 q.0
    (ap (λ j. acts F n j [] [] ls) k ∙ refused F n (c.args.count - 1) ls c.in_err-pair.field-0.0 e)
    (sym q.2))

pub returns : goal.returns
returns t c =
    let F = c.args.facts in
    let n = c.args.line in
    let ls = to_come c.args.lines.now in
    let k : c.args.count ≡ suc (c.args.count - 1) = omega (arith, c.if-count-eq0.false) in
    let front = c.split_at_mut-need.ensures.front_len in
    let d = agree_ok _ (pair n _ ls) _ c.in_ok-pair.ensures.value in
    let e : pair n F ls ≡ Ok (c.pair.new.needs, c.pair.new.makes) = ap (λ f. pair n f ls) (sym front) ∙ d.1 ∙ (λ i. Ok (sym d.2.0 i, sym d.2.1 i)) in
    more F n c.args.count (c.args.count - 1) c.pair.new.needs c.pair.new.makes c.acts.new.needs c.acts.new.makes _ _ c.args.needs.now c.args.makes.now ls _ _ c.acts.result
    k (c.pair.auto.needs ∙ front) (c.pair.auto.makes ∙ c.split_at_mut-make.ensures.front_len) c.split_at_mut-need.ensures.back c.split_at_mut-make.ensures.back c.in_ok-pair.ensures.after
    e c.acts.ensures

pub split_at_mut-need-requires : goal.split_at_mut-need-requires
split_at_mut-need-requires t c =
    let k : c.args.count ≡ suc (c.args.count - 1) = omega (arith, c.if-count-eq0.false) in
    omega (arith, c.requires.room.0, ap (λ j. j * c.args.facts) k)

pub split_at_mut-make-requires : goal.split_at_mut-make-requires
split_at_mut-make-requires t c =
    let k : c.args.count ≡ suc (c.args.count - 1) = omega (arith, c.if-count-eq0.false) in
    omega (arith, c.requires.room.1, ap (λ j. j * c.args.facts) k)

pub acts-requires : goal.acts-requires
acts-requires t c =
    let k : c.args.count ≡ suc (c.args.count - 1) = omega (arith, c.if-count-eq0.false) in
    let all = ap (λ j. j * c.args.facts) k in
    (omega (arith, c.decreases, k), (omega (arith, c.requires.line, k), (omega (arith, c.requires.room.0, all, c.split_at_mut-need.ensures.back_len), omega (arith, c.requires.room.1, all, c.split_at_mut-make.ensures.back_len))))
