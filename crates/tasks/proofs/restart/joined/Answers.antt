use Rattle.std.proofs.Common.{◌≡◌, ℕ, ◌+◌, true, ℤ, nat_abs, sym, refl, ap, ◌∙◌, arith, w8, SFits, rules}
use Rattle.std.proofs.lemmas.Int.{to_z-of_z}
use Rattle.std.proofs.lemmas.Bool.{both_ways}
use Rattle.sets.specs.Sets.{has}
use Rattle.sets.specs.Signs.{says}
use Rattle.sets.specs.declared.literals.Literals.{Literals}
use Rattle.tasks.specs.Restarts.{Fresh}
use Rattle.tasks.proofs.Seeing.{abs_opposite}
use Rattle.tasks.proofs.restart.joined.Goals.{then-fact-facts-via-then-fact-facts, then-fact-facts-via-else-fact-facts+then-is_in, then-fact-facts-via-else-fact-facts+else-is_in+then-is_in-2}
use Rattle.tasks.proofs.restart.joined.Goals as goal

-- a literal whose fact is in the set, with either sign, is not fresh
stale : (facts : ℕ) (set : Literals) (n z : ℤ) (f : ℕ) → nat_abs n ≡ f + 1 → true ≡ has set f (says z true) → Fresh facts set n → ⊥
stale facts set n z f at there fresh = both_ways (has set f (says z true)) (fresh.2 f (says z true) at) (sym there)

pub returns-then-fact-facts : goal.returns-then-fact-facts
returns-then-fact-facts c =
    let n = c.args.number in
    let z = c.in_ok-literal.literal.number in
    let fits : SFits w8 n = search rules in
    let is : nat_abs z ≡ nat_abs n = ap nat_abs (c.in_ok-literal.ensures ∙ to_z-of_z w8 n fits) in
    let f = c.fact.result in
    let at : nat_abs z ≡ f + 1 = sym c.fact.ensures in (
      refl,
      elim c.then-fact-facts.branch [
        | then-fact-facts-via-then-fact-facts w ↦ λ fresh. omega (arith, fresh.1, w.if-fact-facts.true)
        | then-fact-facts-via-else-fact-facts+then-is_in w ↦ stale c.args.facts c.args.set n z f (sym is ∙ at) (w.if-is_in.ensures f at)
        | then-fact-facts-via-else-fact-facts+else-is_in+then-is_in-2 w ↦
            let same : nat_abs w.neg.result.number ≡ nat_abs z = ap nat_abs w.neg.ensures ∙ abs_opposite z in
            stale c.args.facts c.args.set n w.neg.result.number f (sym is ∙ at) (w.if-is_in-2.ensures f (same ∙ at))
      ],
    )
