use Rattle.std.proofs.Common.{◌≡◌, ◌↔◌, ℕ, Bool, eqb, List, [], ◌∷◌, length, vec_items, vec_len, IsTrue, sym, refl, ap, ◌∙◌, subst, arith}
use Rattle.std.proofs.lemmas.Bool.{eq-eqb, eqb-true}
use Rattle.search.specs.declared.entry.Entry as stored
use Rattle.search.specs.Entries.{entries_of}
use Rattle.search.proofs.Settling.{entries_length}
use Rattle.search.proofs.stack.Stack.is_empty.Goals as goal

nothing_open : (es : List stored.Entry) (len : ℕ) (b : Bool) → len ≡ length es → b ≡ eqb len 0 → IsTrue b ↔ (entries_of es ≡ [])
nothing_open [] len b n e = (λ _. refl, λ _. e ∙ eq-eqb len 0 n)
nothing_open (x ∷ es) len b n e = (
  λ t. absurd (let z : ⊥ = omega (arith, n, eqb-true len 0 (sym e ∙ t)) in z),
  λ none. absurd (let z : ⊥ = omega (arith, entries_length (x ∷ es), ap length none) in z),
)

pub returns : goal.returns
returns c =
    let v = c.self.inside.entries in
    subst (λ (es : List stored.Entry). IsTrue c.is_empty.result ↔ (entries_of es ≡ [])) c.self.view_is (nothing_open (vec_items v) (vec_len v) c.is_empty.result v.ok.0 c.is_empty.ensures)
