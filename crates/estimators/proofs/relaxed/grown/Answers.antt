use Rattle.std.proofs.Common.{◌≡◌, ℕ, Bool, true, ◌&&◌, ◌||◌, List, All, sym, ap, ◌∙◌, rules}
use Rattle.std.specs.List.{list_any}
use Rattle.std.proofs.lemmas.Fn.{fold_over}
use Rattle.sets.specs.Sets.{among, has}
use Rattle.sets.specs.Signs.{says}
use Rattle.sets.specs.Members.{TakesLowest, members}
use Rattle.sets.specs.declared.literals.Literals.{Literals}
use Rattle.sets.proofs.Listing.{on_all}
use Rattle.tasks.specs.Bundle.{meaning}
use Rattle.estimators.specs.Layers.{inside, next_layer}
use Rattle.estimators.proofs.Growing.{adds, grown_more, or_none, some_member}
use Rattle.estimators.proofs.Listed.{members_yielded}
use Rattle.estimators.proofs.relaxed.grown.Goals as goal

pub returns : goal.returns
unfolding next_layer
returns g c =
    let m = meaning g.T.Task c.args.task.now in
    let usable = c.usable_actions.result in
    let used : (a : ℕ) → among usable a ≡ m.usable a = c.usable_actions.ensures in
    let layer = has c.args.layer in
    let J : List ℕ → Literals → Type 0 = λ ys next. All (λ (b : ℕ). m.usable b ≡ true) ys → (f : ℕ) (v : Bool) → has next f v ≡ (layer f v || list_any (adds m layer f v) ys) in
    let grew : J (members (λ n. n) usable) c.fold.result =
    fold_over (TakesLowest (λ n. n)) (λ x. x) _ J _ (λ ys s x b q ih k.
    (let is : (f : ℕ) (v : Bool) → has b f v ≡ (has s f v || (inside m.facts (m.needs x) layer && says (m.makes x f) v)) = search rules in grown_more m layer (has s) (has b) ys x is ih, search rules))
    c.into_iter-usable.result (members (λ n. n) usable) c.args.layer c.fold.result (members_yielded usable c.into_iter-usable.result c.into_iter-usable.ensures.into_iter_gives).runs (λ all f v. or_none (layer f v)) c.fold.ensures.ran in
    record {
      value = λ f v. grew ((on_all (λ n. n) usable (λ (b : ℕ). m.usable b ≡ true)).1 (λ a e. sym (used a) ∙ e)) f v
          ∙ ap (λ b. layer f v || b) (some_member m (g.met.T.Task.lawful c.args.task.now) layer f v usable used);
    }
