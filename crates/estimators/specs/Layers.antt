-- Relaxed layers: what could be had after so many actions if making a literal never undid its opposite.
use Rattle.std.specs.Prelude.{ℕ, zero, suc, Bool, true, false, not, ◌&&◌, ◌||◌, ℤ, pos, negsuc, nat_lt}
use Rattle.sets.specs.Bits.{bit}
use Rattle.sets.specs.Signs.{says, is}
use Rattle.tasks.specs.Meaning.{Meaning}
use Rattle.estimators.specs.Ranges.{some_below, all_below}

-- A layer tells of each fact and value whether it has that literal.
abbrev pub Layer : Type 0
Layer = ℕ → Bool → Bool

-- What a number says of a fact is among the values of the fact; 0 says nothing.
abbrev pub allowed : ℤ → (Bool → Bool) → Bool
allowed (pos zero) values = true
allowed (pos (suc n)) values = values true
allowed (negsuc n) values = values false

-- All that the numbers say of the facts lies in the layer.
abbrev pub inside : ℕ → (ℕ → ℤ) → Layer → Bool
inside facts numbers layer = all_below (λ f. allowed (numbers f) (layer f)) facts

-- A usable action whose needs all lie in the layer.
abbrev pub ready : Meaning → Layer → ℕ → Bool
ready m layer a = m.usable a && inside m.facts (m.needs a) layer

-- The next layer adds what is made by the actions that are ready.
unfoldable pub next_layer : Meaning → Layer → Layer
next_layer m layer f v = layer f v || some_below (λ a. ready m layer a && says (m.makes a f) v) m.actions

-- Layer 0 has the literals of the state.
unfoldable pub layer_at : Meaning → ℕ → ℕ → Layer
layer_at m s zero f v = nat_lt f m.facts && is v (bit s f)
layer_at m s (suc n) f v = next_layer m (layer_at m s n) f v

-- Some goal is not in layer number "left".
unfoldable pub relaxed : Meaning → ℕ → ℕ → Bool
relaxed m s left = not (inside m.facts m.goal (layer_at m s left))
