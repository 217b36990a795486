-- The sets that the code grows are the layers: what lies in a set lies in its layer, one action more adds what it makes,
-- and a layer that does not grow is the last one.
use Rattle.std.proofs.Common.{◌≡◌, ℕ, zero, suc, ◌+◌, ◌≤◌, min, Bool, true, false, ◌&&◌, ◌||◌, ltb, List, [], ◌∷◌, ◌++◌, ℤ, pos, negsuc, Decides, sym, refl, ap, ◌∙◌, subst, inl, inr, add-one, arith, Some, All}
use Rattle.std.specs.List.{list_any}
use Rattle.std.proofs.lemmas.List.Elements.{All-pop}
use Rattle.std.proofs.lemmas.List.Folds.{Any-from_list_any, list_any-append, list_any-from_Any}
use mathlib.Core.Path.{fun_ext}
use Rattle.std.proofs.lemmas.Bool.{and_parts, both_ways, cases_eq, cases_lt}
use Rattle.std.proofs.lemmas.Bool.Decides.{same_from_decides, Decides-like}
use Rattle.sets.specs.Bits.{bit}
use Rattle.sets.specs.Sets.{ActionSet, among, has}
use Rattle.sets.specs.Members.{members}
use Rattle.sets.proofs.Listing.{listed_each, listed_only}
use Rattle.sets.specs.Signs.{says, is}
use Rattle.sets.specs.declared.literals.Literals.{Literals}
use Rattle.tasks.specs.Meaning.{Meaning, Lawful}
use Rattle.tasks.specs.Layers.{usable_below}
use Rattle.estimators.specs.Ranges.{some_below}
use Rattle.estimators.specs.Layers.{Layer, allowed, inside, ready, next_layer, layer_at, relaxed}
use Rattle.estimators.specs.Tallies.{all_at, all_from, some_at, some_in}
use Rattle.estimators.specs.Layering.{grows, rises}

allowed_each : (z : ℤ) (values : Bool → Bool) → allowed z values ≡ true → (v : Bool) → says z v ≡ true → values v ≡ true
allowed_each (pos zero) values e v h = absurd (both_ways false refl h)
allowed_each (pos (suc n)) values e true h = e
allowed_each (pos (suc n)) values e false h = absurd (both_ways false refl h)
allowed_each (negsuc n) values e true h = absurd (both_ways false refl h)
allowed_each (negsuc n) values e false h = e

each_allowed : (z : ℤ) (values : Bool → Bool) → ((v : Bool) → says z v ≡ true → values v ≡ true) → allowed z values ≡ true
each_allowed (pos zero) values h = refl
each_allowed (pos (suc n)) values h = h true refl
each_allowed (negsuc n) values h = h false refl

-- a set of all that the numbers say lies in the layer exactly if the numbers do
pub inside_is : (facts : ℕ) (numbers : ℕ → ℤ) (set : Literals) (layer : Layer) (r : Bool) → ((f : ℕ) → facts ≤ f → numbers f ≡ pos 0)
    → ((f : ℕ) (v : Bool) → has set f v ≡ says (numbers f) v) → Decides r ((f : ℕ) (v : Bool) → has set f v ≡ true → layer f v ≡ true) → r ≡ inside facts numbers layer
inside_is facts numbers set layer r past names decides = same_from_decides r (inside facts numbers layer) decides (
  (λ e f v h. elim (cases_lt f facts) [
    | inl lt ↦ allowed_each (numbers f) (layer f) (all_at _ facts e f lt) v (sym (names f v) ∙ h)
    | inr le ↦ absurd (both_ways false refl (subst (λ (z : ℤ). says z v ≡ true) (past f le) (sym (names f v) ∙ h)))
  ]),
  (λ h. all_from _ facts (λ f lt. each_allowed (numbers f) (layer f) (λ v e. h f v (names f v ∙ e)))),
)

-- the action makes the literal and is ready in the layer
abbrev pub adds : Meaning → Layer → ℕ → Bool → ℕ → Bool
adds m layer f v a = ready m layer a && says (m.makes a f) v

pub or_none : (b : Bool) → b ≡ (b || false)
or_none true = refl
or_none false = refl

-- one action more
one_more : (l s x : Bool) → ((l || s) || x) ≡ (l || (s || (x || false)))
one_more true s x = refl
one_more false true x = refl
one_more false false true = refl
one_more false false false = refl

pub grown_more : (m : Meaning) (layer old new : Layer) (ys : List ℕ) (a : ℕ)
    → ((f : ℕ) (v : Bool) → new f v ≡ (old f v || (inside m.facts (m.needs a) layer && says (m.makes a f) v)))
    → (All (λ b. m.usable b ≡ true) ys → (f : ℕ) (v : Bool) → old f v ≡ (layer f v || list_any (adds m layer f v) ys))
    → All (λ b. m.usable b ≡ true) (ys ++ (a ∷ [])) → (f : ℕ) (v : Bool) → new f v ≡ (layer f v || list_any (adds m layer f v) (ys ++ (a ∷ [])))
grown_more m layer old new ys a is before all f v =
    let parts = All-pop (λ b. m.usable b ≡ true) (ys ++ (a ∷ [])) ys (Some a) refl all in
    let makes = inside m.facts (m.needs a) layer && says (m.makes a f) v in
    is f v ∙ ap (λ b. b || makes) (before parts.0 f v) ∙ one_more (layer f v) (list_any (adds m layer f v) ys) makes
    ∙ ap (λ b. layer f v || (list_any (adds m layer f v) ys || (((b && inside m.facts (m.needs a) layer) && says (m.makes a f) v) || false))) (sym parts.1)
    ∙ ap (λ b. layer f v || b) (sym (list_any-append (adds m layer f v) ys (a ∷ [])))

-- what some usable action adds is what some action adds
pub some_member : (m : Meaning) → Lawful m → (layer : Layer) (f : ℕ) (v : Bool) (usable : ActionSet) → ((a : ℕ) → among usable a ≡ m.usable a)
    → list_any (adds m layer f v) (members (λ n. n) usable) ≡ some_below (adds m layer f v) m.actions
some_member m law layer f v usable used = same (list_any (adds m layer f v) (members (λ n. n) usable)) (some_below (adds m layer f v) m.actions) (λ e.
    let at = Any-from_list_any (adds m layer f v) (members (λ n. n) usable) e in
    let can : m.usable at.1 ≡ true = sym (used at.1) ∙ subst (λ (b : ℕ). among usable b ≡ true) at.3 (listed_only (λ n. n) usable at.0 at.1 at.2) in
    some_in (adds m layer f v) m.actions at.1 (usable_below m law at.1 can) at.4) (λ e.
    let at = some_at (adds m layer f v) m.actions e in
    let can : m.usable at.0 ≡ true = (and_parts (m.usable at.0) (inside m.facts (m.needs at.0) layer) (and_parts (ready m layer at.0) (says (m.makes at.0 f) v) at.1).0).0 in
    let there = listed_each (λ n. n) usable at.0 (used at.0 ∙ can) in
    list_any-from_Any (adds m layer f v) (members (λ n. n) usable) (there.0, at.0, there.1, there.2, at.1))
  where
    same : (a b : Bool) → (a ≡ true → b ≡ true) → (b ≡ true → a ≡ true) → a ≡ b
    same true b p q = sym (p refl)
    same false true p q = q refl
    same false false p q = refl

-- the layers as functions
module _ (m : Meaning) (first : ℕ) where
  pub next_is : (n : ℕ) (layer : Layer) → ((f : ℕ) (v : Bool) → layer f v ≡ layer_at m first n f v) → (f : ℕ) (v : Bool) → next_layer m layer f v ≡ layer_at m first (n + 1) f v
  unfolding layer_at
  next_is n layer same f v = rw add-one (ap (λ (l : Layer). next_layer m l f v) (fun_ext (λ g. fun_ext (λ w. same g w))))

  -- the first layer by the words of a state
  pub first_is : Lawful m → (f : ℕ) (v : Bool) → (ltb f (min m.facts 64) && is v (bit first f)) ≡ layer_at m first 0 f v
  unfolding layer_at
  first_is law f v = ap (λ (n : ℕ). ltb f n && is v (bit first f)) (let e : min m.facts 64 ≡ m.facts = omega (arith, law.facts_most) in e)

  -- the set of the goals lies in the set of a layer exactly if the goals lie in the layer
  pub goals_in : Lawful m → (n : ℕ) (goals layer : Literals) (r : Bool) → ((f : ℕ) (v : Bool) → has goals f v ≡ says (m.goal f) v) → ((f : ℕ) (v : Bool) → has layer f v ≡ layer_at m first n f v)
      → Decides r ((f : ℕ) (v : Bool) → has goals f v ≡ true → has layer f v ≡ true) → r ≡ inside m.facts m.goal (layer_at m first n)
  goals_in law n goals layer r names same decides = inside_is m.facts m.goal goals (layer_at m first n) r law.goal_past names
      (Decides-like r (λ h f v e. sym (same f v) ∙ h f v e) (λ h f v e. same f v ∙ h f v e) decides)

  -- a layer that has all of the next is the same as every later one
  pub last_layer : (i n : ℕ) → i ≤ n → ((f : ℕ) (v : Bool) → layer_at m first (i + 1) f v ≡ true → layer_at m first i f v ≡ true) → layer_at m first n ≡ layer_at m first i
  unfolding layer_at
  last_layer i zero le stays = ap (layer_at m first) (let z : 0 ≡ i = omega arith in z)
  last_layer i (suc n) le stays = elim (cases_eq i (suc n)) [
    | inl e ↦ ap (layer_at m first) (sym e)
    | inr ne ↦ ap (λ (l : Layer). next_layer m l) (last_layer i n (omega arith) stays) ∙ fun_ext (λ f. fun_ext (λ v. still f v))
  ]
    where
      still : (f : ℕ) (v : Bool) → next_layer m (layer_at m first i) f v ≡ layer_at m first i f v
      still f v = same_from_decides {P = layer_at m first i f v ≡ true} _ _ (rw add-one at (stays f v), grows m first (layer_at m first i) f v) (λ e. e, λ e. e)

  -- what the answers rest on: goals that lie in a layer lie in each later one, and goals that do not lie in the last layer lie in none
  pub had_before : (i n : ℕ) → i ≤ n → inside m.facts m.goal (layer_at m first i) ≡ true → false ≡ relaxed m first n
  unfolding relaxed
  had_before i n le e = rw (all_from _ m.facts (λ f lt. later (m.goal f) (layer_at m first i f) (layer_at m first n f) (λ v h. rises m first n i f v le h) (all_at _ m.facts e f lt)))
    where
      later : (z : ℤ) (old new : Bool → Bool) → ((v : Bool) → old v ≡ true → new v ≡ true) → allowed z old ≡ true → allowed z new ≡ true
      later (pos zero) old new up h = refl
      later (pos (suc k)) old new up h = up true h
      later (negsuc k) old new up h = up false h

  pub never_had : (i n : ℕ) → i ≤ n → ((f : ℕ) (v : Bool) → layer_at m first (i + 1) f v ≡ true → layer_at m first i f v ≡ true) → inside m.facts m.goal (layer_at m first i) ≡ false → true ≡ relaxed m first n
  unfolding relaxed
  never_had i n le stays e = rw (last_layer i n le stays, e)
