use Rattle.std.proofs.Common.{◌≡◌, ℕ, List, [], ◌∷◌, None, sym, ap, ◌∙◌, subst}
use Rattle.tasks.specs.Bundle.{meaning}
use Rattle.tasks.specs.Meaning.{Meaning}
use Rattle.search.specs.declared.entry.Entry as stored
use Rattle.search.specs.Entries.{entries_of}
use Rattle.search.specs.Machines.{Entry, Machine}
use Rattle.search.specs.Machines.Entry.{part}
use Rattle.search.specs.Machines.Stage.{unfinished}
use Rattle.search.specs.Steps.{first_part, put_up}
use Rattle.search.specs.Stored.{KeptUp}
use Rattle.search.proofs.Deepening.{put_up_shallow}
use Rattle.search.proofs.Topping.{put_up_topped}
use Rattle.search.proofs.record.Search.put_up.Goals as goal

only_entry : (m : Meaning) (bound k : ℕ) (es : List stored.Entry) (es' : List Entry) → es ≡ [] → es' ≡ part (first_part m k) None ∷ entries_of es
    → record { stage = unfinished; bound = bound; round = k; entries = es' } ≡ put_up m bound k
unfolding put_up
only_entry m bound k es es' empty at =
    ap (λ (xs : List Entry). record { stage = unfinished; bound = bound; round = k; entries = xs })
    (at ∙ ap (λ (xs : List stored.Entry). part (first_part m k) None ∷ entries_of xs) empty)

pub invariant_of-self : goal.invariant_of-self
unfolding put_up
invariant_of-self g c =
    let m = meaning g.T.Task c.args.task.now in
    let r = c.args.rounds in
    record {
      kept = subst (λ (S : Machine). ∥ KeptUp S.stage S.round S.entries ∥₁)
          (sym (only_entry m r.bound r.round c.clear.new.self (entries_of c.push_first.new.self) c.clear.ensures c.push_first.ensures))
          ∣ record { shallow = put_up_shallow 128 m r.bound r.round; topped = λ _. put_up_topped m r.bound r.round } ∣₁;
    }

pub returns : goal.returns
returns g c =
    let r = c.args.rounds in
    only_entry (meaning g.T.Task c.args.task.now) r.bound r.round c.clear.new.self (entries_of c.push_first.new.self) c.clear.ensures c.push_first.ensures
