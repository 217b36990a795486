-- What the readers of lines and of words give, one item after another.
use Rattle.std.proofs.Common.{◌≡◌, ℕ, ◌≤◌, List, [], ◌∷◌, length, get_or, Some, None, Option, sym, ap, ◌∙◌, arith, Bor, unwrap_or, slice_get}
use Rattle.std.specs.Bool.{⊤}
use Rattle.std.specs.Iterator.{MakesProgress, item_count}
use Rattle.std.specs.Option.{MatchOption, option_map}
use Rattle.std.proofs.lemmas.Option.{unwrap_or-slice_get}

-- one item fewer is left
pub goes : {S : Type 0} (left : S → List (List ℕ)) (s t : S) (w : Bor (List ℕ)) → left s ≡ w.now ∷ left t → MakesProgress (λ _. ⊤) (item_count left) s (Some w) t
goes left s t w e = record { on = λ _. (tt, tt, omega (arith, ap length e)); keeps = tt; rests = λ _. tt }

-- what is left after a call is no more than was left before it
pub fewer : (ws : List (List ℕ)) (r : Option (Bor (List ℕ))) (ws' : List (List ℕ)) → MatchOption r ((ws ≡ []) × (ws' ≡ [])) (λ x. ws ≡ x.now ∷ ws') → length ws' ≤ length ws
fewer ws None ws' h = omega (arith, ap length h.1)
fewer ws (Some x) ws' h = omega (arith, ap length h)

-- the n-th item, or nothing
pub nth_or_empty : (r : Option (Bor (List ℕ))) (d : Bor (List ℕ)) (ws : List (List ℕ)) (n : ℕ) → d.now ≡ [] → option_map (λ x. x.now) r ≡ slice_get ws n → (unwrap_or r d).now ≡ get_or ws n []
nth_or_empty None d ws n e h = e ∙ ap (λ o. unwrap_or o []) h ∙ unwrap_or-slice_get ws n []
nth_or_empty (Some x) d ws n e h = ap (λ o. unwrap_or o []) h ∙ unwrap_or-slice_get ws n []

-- the next item, or nothing
pub next_or_empty : (r : Option (Bor (List ℕ))) (d : Bor (List ℕ)) (ws ws' : List (List ℕ)) → d.now ≡ [] → MatchOption r ((ws ≡ []) × (ws' ≡ [])) (λ x. ws ≡ x.now ∷ ws') → (unwrap_or r d).now ≡ get_or ws 0 []
next_or_empty None d ws ws' e h = e ∙ ap (λ l. get_or l 0 []) (sym h.0)
next_or_empty (Some x) d ws ws' e h = ap (λ l. get_or l 0 []) (sym h)
