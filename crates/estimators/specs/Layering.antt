-- Relaxed layers are sound. The literals of each state on the way lie in the layer of its number, since an action that applies
-- there is ready in that layer; so where the goals hold after n actions they lie in layer n, and layers only grow.
use Rattle.std.specs.Prelude.{◌≡◌, ℕ, zero, suc, ◌+◌, ◌<◌, ◌≤◌, Bool, true, false, ◌&&◌, List, [], ◌∷◌, length, ℤ, pos, negsuc, refl}
use Rattle.std.proofs.Math.Path.{subst}
use Rattle.std.proofs.Math.Logic.{inl, inr}
use native.Mathlib.Omega.{arith}
use Rattle.std.proofs.lemmas.Bool.{both_ways, cases_eq, and_from, or_left, or_right, lt-ltb, not-true}
use Rattle.sets.specs.Bits.{bit}
use Rattle.sets.specs.Signs.{says, is}
use Rattle.tasks.specs.Meaning.{Meaning, Lawful, Three}
use Rattle.tasks.specs.States.{Holds, Applies, Reaches, after, put}
use Rattle.tasks.specs.Layers.{usable_below}
use Rattle.tasks.proofs.Packing.{bit_packed}
use Rattle.estimators.specs.Sound.{Sound}
use Rattle.estimators.specs.Layers.{Layer, allowed, inside, ready, next_layer, layer_at, relaxed}
use Rattle.estimators.specs.Tallies.{some_in, all_from}

-- a number that holds of a fact is allowed where the fact's value is there
allows : (z : ℤ) (values : Bool → Bool) (b : Bool) → Three z → Holds z b → values b ≡ true → allowed z values ≡ true
allows (pos zero) values b three h e = refl
allows (pos (suc zero)) values b three h e = subst (λ (x : Bool). values x ≡ true) (h.0 refl) e
allows (pos (suc (suc n))) values b three h e = absurd (omega arith)
allows (negsuc zero) values b three h e = subst (λ (x : Bool). values x ≡ true) (h.1 refl) e
allows (negsuc (suc n)) values b three h e = absurd (omega arith)

is_itself : (b : Bool) → is b b ≡ true
is_itself true = refl
is_itself false = refl

-- layers only grow
module _ (m : Meaning) (first : ℕ) where
  pub grows : (layer : Layer) (f : ℕ) (v : Bool) → layer f v ≡ true → next_layer m layer f v ≡ true
  unfolding next_layer
  grows layer f v e = or_left (layer f v) _ e

  pub rises : (n k f : ℕ) (v : Bool) → k ≤ n → layer_at m first k f v ≡ true → layer_at m first n f v ≡ true
  unfolding layer_at
  rises zero k f v le e = subst (λ (i : ℕ). layer_at m first i f v ≡ true) (let z : k ≡ 0 = omega arith in z) e
  rises (suc n) k f v le e = elim (cases_eq k (suc n)) [
    | inl q ↦ subst (λ (i : ℕ). layer_at m first i f v ≡ true) q e
    | inr ne ↦ grows (layer_at m first n) f v (rises n k f v (omega arith) e)
  ]

module _ (m : Meaning) (law : Lawful m) (first : ℕ) where
  -- the literals of the state lie in the layer
  Lies : ℕ → Layer → Type 0
  Lies s layer = (f : ℕ) → f < m.facts → layer f (bit s f) ≡ true

  lies_first : Lies first (layer_at m first 0)
  unfolding Lies layer_at
  lies_first f lt = and_from _ _ (lt-ltb f m.facts lt) (is_itself (bit first f))

  -- what holds in a state lies in a layer that has its literals
  holding : (numbers : ℕ → ℤ) (layer : Layer) (s : ℕ) → ((f : ℕ) → Three (numbers f)) → Lies s layer → ((f : ℕ) → f < m.facts → Holds (numbers f) (bit s f)) → inside m.facts numbers layer ≡ true
  unfolding Lies
  holding numbers layer s three lies holds = all_from _ m.facts (λ f lt. allows (numbers f) (layer f) (bit s f) (three f) (holds f lt) (lies f lt))

  lies_after : (layer : Layer) (s a : ℕ) → Lies s layer → Applies m s a → Lies (after m s a) (next_layer m layer)
  unfolding Lies next_layer
  lies_after layer s a lies ok f lt = rw (bit_packed (λ g. put (m.makes a g) (bit s g)) m.facts f lt) (go (m.makes a f) refl)
    where
      is_ready : ready m layer a ≡ true
      is_ready = and_from (m.usable a) (inside m.facts (m.needs a) layer) ok.usable (holding (m.needs a) layer s (law.needs_three a) lies ok.met)

      made : (v : Bool) → says (m.makes a f) v ≡ true → next_layer m layer f v ≡ true
      made v e = or_right (layer f v) _ (some_in (λ b. ready m layer b && says (m.makes b f) v) m.actions a (usable_below m law a ok.usable) (and_from (ready m layer a) (says (m.makes a f) v) is_ready e))

      go : (z : ℤ) → m.makes a f ≡ z → next_layer m layer f (put z (bit s f)) ≡ true
      go (pos zero) q = grows m first layer f (bit s f) (lies f lt)
      go (pos (suc n)) q = made true (rw q)
      go (negsuc n) q = made false (rw q)

  reached : (acts : List ℕ) (s k n : ℕ) → Lies s (layer_at m first k) → Reaches m s acts → k + length acts ≤ n → inside m.facts m.goal (layer_at m first n) ≡ true
  unfolding layer_at Lies
  reached [] s k n lies r le = holding m.goal (layer_at m first n) s law.goal_three (λ f lt. rises m first n k f (bit s f) (omega arith) (lies f lt)) r
  reached (a ∷ rest) s k n lies r le = reached rest (after m s a) (suc k) n (lies_after (layer_at m first k) s a lies r.0) r.1 (omega arith)

pub relaxed_sound : (m : Meaning) → Lawful m → Sound m (relaxed m)
unfolding relaxed
relaxed_sound m law s n e acts few r =
    both_ways (inside m.facts m.goal (layer_at m s n)) (not-true _ e) (reached m law s acts s 0 n (lies_first m law s) r (omega arith))
