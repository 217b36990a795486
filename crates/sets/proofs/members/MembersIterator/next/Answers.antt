use Rattle.std.proofs.Common.{◌<◌, ap, ◌∙◌, length, refl, arith, rules}
use Rattle.sets.specs.Members.{members}
use Rattle.sets.proofs.Listing.{listed_none, listed_first}
use Rattle.sets.proofs.members.MembersIterator.next.Goals as goal

pub returns-in_err-pop_lowest-clause-steps : goal.returns-in_err-pop_lowest-clause-steps
returns-in_err-pop_lowest-clause-steps g c =
    let none = c.in_err-pop_lowest.ensures.value in
    rw c.from_residual.ensures ((listed_none _ _ none.0, listed_none _ _ (λ i. none.1 i ∙ none.0 i)), none)

pub returns-clause-steps : goal.returns-clause-steps
returns-clause-steps g c = rw c.from.ensures (listed_first _ _ _ _ c.in_ok-pop_lowest.ensures.value (c.in_ok-pop_lowest.ensures.less refl), c.in_ok-pop_lowest.ensures.value)

pub returns-clause-goes : goal.returns-clause-goes
returns-clause-goes g c =
    let first = listed_first _ _ _ _ c.in_ok-pop_lowest.ensures.value (c.in_ok-pop_lowest.ensures.less refl) in
    let fewer : length (members g.W.Word.number c.pop_lowest.new.self) < length (members g.W.Word.number c.args.self.now.rest) = omega (arith, ap length first) in
    search rules
