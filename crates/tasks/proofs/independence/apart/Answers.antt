use Rattle.std.proofs.Common.{◌≡◌, ℕ, Bool, true, false, ◌&&◌, ◌||◌, sym, refl, ◌∙◌, ap₂}
use Rattle.std.proofs.lemmas.Bool.{or_left, or_right, false≢true}
use Rattle.sets.specs.Sets.{has, holds}
use Rattle.tasks.proofs.independence.apart.Goals as goal

-- a fact has some value in a set where it has one
some : (g : Bool → Bool) (v : Bool) → g v ≡ true → (g true || g false) ≡ true
some g true e = or_left (g true) (g false) e
some g false e = or_right (g true) (g false) e

clash : (a b c d : Bool) → ((a ≡ true → c ≡ true → ⊥)) → (a ≡ true → d ≡ true → ⊥) → (b ≡ true → c ≡ true → ⊥) → (b ≡ true → d ≡ true → ⊥) → ((a || b) && (c || d)) ≡ false
clash true b true d p q r s = absurd (p refl refl)
clash true b false true p q r s = absurd (q refl refl)
clash true b false false p q r s = refl
clash false true true d p q r s = absurd (r refl refl)
clash false true false true p q r s = absurd (s refl refl)
clash false true false false p q r s = refl
clash false false c d p q r s = refl

pub returns : goal.returns
unfolding has
returns c =
    let x = c.args.x in
    let y = c.args.y in
    let d = c.is_empty.ensures.value in
    let named : (f : ℕ) → holds c.common.result f ≡ ((has x f true || has x f false) && (has y f true || has y f false)) =
    λ f. c.common.ensures.value f ∙ ap₂ (λ s t. s && t) (c.union-these.ensures.value f) (c.union-those.ensures.value f) in (
      λ e f v w p q. false≢true (sym (d.0 e f) ∙ named f ∙ ap₂ (λ s t. s && t) (some (has x f) v p) (some (has y f) w q)),
      λ h. d.1 (λ f. named f ∙ clash (has x f true) (has x f false) (has y f true) (has y f false) (h f true true) (h f true false) (h f false true) (h f false false)),
    )
