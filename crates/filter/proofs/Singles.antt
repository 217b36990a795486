-- Where the first steps have one action left each, the levels up to there are the states that these actions reach: by
-- induction on the level.
use Rattle.std.proofs.Common.{◌≡◌, ℕ, zero, suc, ◌<◌, ◌≤◌, Bool, true, false, not, ◌||◌, List, [], ◌∷◌, length, get_or, sym, refl, ap, ◌∙◌, subst, inl, inr, arith}
use Rattle.std.proofs.lemmas.Bool.{cases_Bool, or_cases}
use Rattle.sets.specs.Bits.{bit}
use Rattle.tasks.specs.Meaning.{Meaning, Lawful}
use Rattle.tasks.specs.States.{packed, put, Meets, Applies, after, Reaches, start_state, state_at}
use Rattle.filter.specs.Structures.{Structure}
use Rattle.filter.specs.Rules.{stage, Settled}
use Rattle.filter.specs.Filtering.{Consistent}
use Rattle.filter.specs.Plans.{Only, Fixes, Anchored, state_of}
use Rattle.filter.specs.Theorems.{ALevelAfterSingleStepsIsAState, SingleStepsAreAPlan}
use Rattle.tasks.proofs.Acting.{holding}
use Rattle.tasks.proofs.Packing.{bit_packed, packed_same}
use Rattle.filter.proofs.Values.{never, not_self, Effect, effect}
use Rattle.filter.proofs.Values.Effect.{makes, spoils, spares}
use Rattle.filter.proofs.Tracing.{bit_after, state_next}

reaches : (m : Meaning) (s : ℕ) (acts : List ℕ) → ((i : ℕ) → i < length acts → Applies m (state_at m s acts i) (get_or acts i 0)) → Meets m.facts m.goal (state_at m s acts (length acts)) → Reaches m s acts
reaches m s [] h g = g
reaches m s (a ∷ acts) h g = (h 0 (omega arith), reaches m (after m s a) acts (λ i lt. h (suc i) (omega arith)) g)

repacked : (b : ℕ → Bool) (n : ℕ) → packed (λ f. bit (packed b n) f) n ≡ packed b n
repacked b n = packed_same _ b n (λ f l. bit_packed b n f l)

-- a state has no bits past the facts
proper : (m : Meaning) (s : ℕ) (acts : List ℕ) (j : ℕ) → packed (λ f. bit s f) m.facts ≡ s → packed (λ f. bit (state_at m s acts j) f) m.facts ≡ state_at m s acts j
proper m s acts zero e = e
proper m s [] (suc j) e = e
proper m s (a ∷ acts) (suc j) e = proper m (after m s a) acts j (repacked _ m.facts)

module _ (m : Meaning) (lw : Lawful m) (p : Structure) (co : Consistent m p) (an : Anchored m p) (acts : List ℕ) (le : length acts ≤ p.round) (fx : Fixes p acts) where
  abbrev at : ℕ → ℕ
  at i = state_at m (start_state m) acts i

  -- a value that is possible at a level is the state's
  fixed : (j : ℕ) → j ≤ length acts → (f : ℕ) (v : Bool) → f < m.facts → p.possible j f v ≡ true → v ≡ bit (at j) f
  fixed zero l f v lt e = an.start f v lt e
  fixed (suc j) l f v lt e = go (λ x. fixed j (omega arith) f v lt x) (effect (m.makes (get_or acts j 0) f) (lw.makes_three (get_or acts j 0) f) v (bit (at j) f))
    where
      o : Only p j (get_or acts j 0)
      o = fx j (omega arith)

      st : Settled m (stage p j)
      st = co.closed j (omega arith)

      now : bit (at (suc j)) f ≡ put (m.makes (get_or acts j 0) f) (bit (at j) f)
      now = ap (λ s. bit s f) (state_next m (start_state m) acts j (omega arith)) ∙ bit_after m (at j) (get_or acts j 0) f lt

      go : (p.possible j f v ≡ true → v ≡ bit (at j) f) → Effect (m.makes (get_or acts j 0) f) v (bit (at j) f) → v ≡ bit (at (suc j)) f
      go ih (makes z q) = sym (now ∙ q)
      go ih (spoils z q) = absurd (st.opposite_always_made f v lt e (λ b there. ap (λ x. m.makes x f) (o.alone b there) ∙ z))
      go ih (spares x y q) = elim (cases_Bool (p.possible j f v)) [
        | inl was ↦ ih was ∙ sym (now ∙ q)
        | inr off ↦ absurd (st.neither_possible_before_nor_made f v lt e (off, λ b there z. x (ap (λ c. m.makes c f) (sym (o.alone b there)) ∙ z)))
      ]

  some : (j : ℕ) → j ≤ length acts → (f : ℕ) → f < m.facts → (b : Bool) → (p.possible j f b || p.possible j f (not b)) ≡ true
  some j l f lt true = co.value j f (omega arith) lt
  some j l f lt false = turn (p.possible j f true) (p.possible j f false) (co.value j f (omega arith) lt)
    where
      turn : (x y : Bool) → (x || y) ≡ true → (y || x) ≡ true
      turn true true e = refl
      turn true false e = refl
      turn false true e = refl
      turn false false e = e

  shows : (j : ℕ) → j ≤ length acts → (f : ℕ) → f < m.facts → p.possible j f (bit (at j) f) ≡ true
  shows j l f lt =
      let b = bit (at j) f in
      elim (or_cases _ _ (some j l f lt b)) [ inl x ↦ x | inr y ↦ not_self b (sym (fixed j l f (not b) lt y)) ]

  pub level_is : (j : ℕ) → j ≤ length acts → state_of m p j ≡ at j
  level_is j l = packed_same _ (λ f. bit (at j) f) m.facts (λ f lt. one f lt (bit (at j) f) refl) ∙ proper m (start_state m) acts j (repacked _ m.facts)
    where
      one : (f : ℕ) → f < m.facts → (b : Bool) → bit (at j) f ≡ b → p.possible j f true ≡ bit (at j) f
      one f lt true e = subst (λ (x : Bool). p.possible j f x ≡ true) e (shows j l f lt) ∙ sym e
      one f lt false e = elim (cases_Bool (p.possible j f true)) [ inl on ↦ let q = fixed j l f true lt on in never cc | inr off ↦ off ∙ sym e ]

  applies : (i : ℕ) → i < length acts → Applies m (at i) (get_or acts i 0)
  applies i lt = record {
    usable = an.usable i (get_or acts i 0) (omega arith) (fx i lt).there;
    met = λ f below. holding (m.needs (get_or acts i 0) f) _ (λ v z. elim (cases_Bool (p.possible i f v)) [
      | inl on ↦ sym (fixed i (omega arith) f v below on)
      | inr off ↦ absurd ((co.closed i (omega arith)).needs_the_impossible (get_or acts i 0) (fx i lt).there (f, v, below, z, off))
    ]);
  }

pub level_state : ALevelAfterSingleStepsIsAState
level_state m lw p co an acts le fx j l = level_is m lw p co an acts le fx j l

pub single_plan : SingleStepsAreAPlan
single_plan m lw p co an acts e fx =
    let le : length acts ≤ p.round = omega arith in
    reaches m (start_state m) acts (applies m lw p co an acts le fx)
    (λ f lt. an.goal f _ lt (subst (λ (n : ℕ). p.possible n f (bit (state_at m (start_state m) acts (length acts)) f) ≡ true) e (shows m lw p co an acts le fx (length acts) (omega arith) f lt)))
