use Rattle.std.proofs.Common.{◌<◌, ◌&&◌, ◌||◌, eqb, length, get_or, take, sym, ap, ◌∙◌, arith, take_all, below_more}
use mathlib.Core.Path.{fun_ext}
use Rattle.std.proofs.lemmas.Bool.{lt-ltb}
use Rattle.sets.specs.Sets.{among}
use Rattle.tasks.specs.Bundle.{meaning}
use Rattle.tasks.specs.Bans.{banned, listed}
use Rattle.tasks.proofs.Listing.{eqb_swap, listed_more}
use Rattle.tasks.proofs.ban.Ban.new.Goals as goal

pub loop-a-preserved : goal.loop-a-preserved
loop-a-preserved g c =
    let xs = c.args.out.now in
    let i = c.loop-a.a-index in
    let within : i < length xs = omega arith in
    let law = g.met.T.Task.lawful c.args.below in
    let small : get_or xs i 0 < 128 = omega arith in
    record {
      within = omega arith;
      small = below_more _ _ c.loop-a.invariant.small (omega arith);
      are = λ a. c.with-banned.ensures.value a ∙ ap (λ b. among c.loop-a.banned a || (b && eqb a (get_or xs i 0))) (lt-ltb (get_or xs i 0) 128 small)
          ∙ ap (λ b. b || eqb a (get_or xs i 0)) (c.loop-a.invariant.are a) ∙ ap (λ b. listed (take i xs) a || b) (eqb_swap a (get_or xs i 0)) ∙ sym (listed_more xs i a within);
    }

pub returns : goal.returns
returns g c =
    let xs = c.args.out.now in (
      λ k h. omega (arith, c.loop-a.invariant.small k),
      ap (λ b. banned b (meaning g.T.Task c.args.below)) (fun_ext (λ a. c.loop-a.invariant.are a ∙ ap (λ ys. listed ys a) (take_all c.loop-a.a-index xs (omega arith)))),
    )
