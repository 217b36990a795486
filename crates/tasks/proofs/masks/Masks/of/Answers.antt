use Rattle.std.proofs.Common.{◌≡◌, ℕ, false, rules}
use Rattle.sets.specs.Sets.{ActionSet, among, has}
use Rattle.tasks.specs.declared.row.Row.{Row}
use Rattle.tasks.specs.Bundle.{meaning}
use Rattle.tasks.specs.Masks.{idle, makes_at, set_at}
use Rattle.tasks.proofs.Assembling as of
use Rattle.tasks.proofs.Assembling.{described, means}
use Rattle.tasks.proofs.Making.{made_at}
use Rattle.tasks.proofs.Rowing.{NamesRow}
use Rattle.tasks.proofs.masks.Masks.of.Goals as goal

pub invariant_of-result : goal.invariant_of-result
unfolding set_at
invariant_of-result g c =
    let m = meaning g.T.Task c.args.task.now in
    let law = g.met.T.Task.lawful c.args.task.now in
    let rows = c.from_fn-rows.result in
    let sets = c.from_fn-removers.result in
    let named = made_at _ _ (λ (a : ℕ) (row : Row). NamesRow m a row) (λ i y q k. search rules) rows 128 c.from_fn-rows.ensures.items in
    let cleared = made_at _ _ (λ (f : ℕ) (set : ActionSet). (a : ℕ) → among set a ≡ has (makes_at rows a) f false) (λ i y q k. search rules) sets 64 c.from_fn-removers.ensures.items in
    let facts = c.facts.result in
    let actions = c.actions-actions.result in
    let usable = c.usable_actions.result in
    let start = c.start_state.result in
    let goals = c.goals.result in
    let d = described m law facts actions usable rows start goals c.facts.ensures c.actions-actions.ensures c.usable_actions.ensures c.from_fn-rows.ensures.items.long (λ a l. named a idle l) c.start_state.ensures c.goals.ensures in
    record {
      some = of.some facts actions usable rows start goals m d;
      few = of.few facts actions usable rows start goals m d;
      most = of.most facts actions usable rows start goals m d;
      own = of.own facts actions usable rows start goals m d;
      long = c.from_fn-rows.ensures.items.long;
      needed = of.needed facts actions usable rows start goals m d;
      made = of.made facts actions usable rows start goals m d;
      needs_once = of.needs_once facts actions usable rows start goals m d;
      makes_once = of.makes_once facts actions usable rows start goals m d;
      needing = of.needing facts actions usable rows start goals m d;
      making = of.making facts actions usable rows start goals m d;
      aimed = of.aimed facts actions usable rows start goals m d;
      aims_once = of.aims_once facts actions usable rows start goals m d;
      wide = c.from_fn-removers.ensures.items.long;
      removes = of.removes facts actions usable rows start goals m d sets c.from_fn-removers.ensures.items.long (λ f a l. cleared f (record { bits = 0 }) l a);
    }

pub returns : goal.returns
returns g c =
    let m = meaning g.T.Task c.args.task.now in
    let law = g.met.T.Task.lawful c.args.task.now in
    let rows = c.from_fn-rows.result in
    let named = made_at _ _ (λ (a : ℕ) (row : Row). NamesRow m a row) (λ i y q k. search rules) rows 128 c.from_fn-rows.ensures.items in
    record {
      value = means c.facts.result c.actions-actions.result c.usable_actions.result rows c.start_state.result c.goals.result m
          (described m law c.facts.result c.actions-actions.result c.usable_actions.result rows c.start_state.result c.goals.result c.facts.ensures c.actions-actions.ensures c.usable_actions.ensures
          c.from_fn-rows.ensures.items.long (λ a l. named a idle l) c.start_state.ensures c.goals.ensures);
    }
