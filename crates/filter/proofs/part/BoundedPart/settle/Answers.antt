use Rattle.std.proofs.Common.{◌^◌, ◌<◌, refl, rules}
use Rattle.std.proofs.lemmas.Bool.{both_ways}
use Rattle.filter.proofs.Settling.{begun, firm_first, gone_on, falls_on, lost, whole, unwhole}
use Rattle.filter.proofs.part.BoundedPart.settle.Goals as goal

pub loop-i-init : goal.loop-i-init
loop-i-init g c = begun _ _ c.args.due c.below.result _ c.args.self.now.few c.below.ensures.value c.common-left.ensures.value

pub loop-i-preserved : goal.loop-i-preserved
loop-i-preserved g c = gone_on _ _ _ _ _ _ _ c.in-Some.ensures.value.1 c.loop-i.invariant _ _ c.in-Some-turn.ensures.value

pub loop-i-smaller : goal.loop-i-smaller
loop-i-smaller g c =
    let small : c.in-Some-turn.next.bits < 2 ^ 32 = search rules in
    falls_on _ _ _ _ _ _ _ c.in-Some.ensures.value.1 c.loop-i.invariant _ _ c.in-Some-turn.ensures.value small (c.in-Some.ensures.less refl)

pub returns-then-covers : goal.returns-then-covers
returns-then-covers g c = record {
  value = (
    c.loop-i.invariant.narrowed,
    λ firm. whole _ _ _ _ _ c.loop-i.invariant c.in_default.ensures.value.0 _ c.all_literals.ensures.value
        (c.covers.ensures.value.0 c.if-covers.true)
        (firm_first _ c.args.self.now.part c.args.due c.below.result _ c.args.self.now.few c.below.ensures.value c.common-left.ensures.value firm),
  );
}

pub returns-else-covers : goal.returns-else-covers
returns-else-covers g c =
    let i = c.loop-i.invariant in
    record {
      value = (
        unwhole _ _ _ _ _ i c.in_default.ensures.value.0 _ c.all_literals.ensures.value (λ k. both_ways _ c.if-covers.false (c.covers.ensures.value.1 k)),
        i.narrowed.round,
        i.narrowed.past,
      );
    }

pub returns-in_default-turn : goal.returns-in_default-turn
returns-in_default-turn g c = record { value = lost _ _ _ _ _ _ _ c.in-Some.ensures.value.1 c.loop-i.invariant _ c.in_default-turn.ensures.value }
