-- The trace of a plan is consistent: its actions meet their needs and what they make is so after them. What filtering
-- leaves has it, since it is the largest.
use Rattle.std.proofs.Common.{◌≡◌, ℕ, zero, suc, ◌<◌, ◌≤◌, Bool, true, false, not, ◌||◌, List, [], ◌∷◌, length, get_or, sym, refl, ap, ◌∙◌, subst, inl, inr, arith}
use Rattle.std.proofs.lemmas.Bool.{both_ways, and_parts, and_from, and_cases, or_left, or_right, eqb-true, eq-eqb, lt-ltb, le-leb}
use Rattle.sets.specs.Bits.{bit}
use Rattle.sets.specs.Signs.{is}
use Rattle.tasks.specs.Meaning.{Meaning, Lawful, value}
use Rattle.tasks.specs.States.{put, Applies, after, Reaches, Solves, start_state, state_at}
use Rattle.filter.specs.Structures.{Structure, Below, trimmed}
use Rattle.filter.specs.Rules.{stage, Settled}
use Rattle.filter.specs.Filtering.{Consistent}
use Rattle.filter.specs.Filtering.Filtered.{kept, wiped}
use Rattle.filter.specs.Plans.{trace, Inside}
use Rattle.filter.specs.Theorems.{TheTraceOfAPlanIsConsistent, FilteringLosesNoPlan}
use Rattle.tasks.proofs.Acting.{held, is_value, value_is}
use Rattle.tasks.specs.Layers.{usable_below}
use Rattle.tasks.proofs.Packing.{bit_packed}
use Rattle.filter.proofs.Values.{not_self, Effect, effect, not_both, opposed, hidden}
use Rattle.filter.proofs.Values.Effect.{makes, spoils, spares}

-- the states along a sequence
pub state_next : (m : Meaning) (s : ℕ) (acts : List ℕ) (i : ℕ) → i < length acts → state_at m s acts (suc i) ≡ after m (state_at m s acts i) (get_or acts i 0)
state_next m s [] i lt = absurd (omega arith)
state_next m s (a ∷ acts) zero lt = refl
state_next m s (a ∷ acts) (suc i) lt = state_next m (after m s a) acts i (omega arith)

pub applies_at : (m : Meaning) (s : ℕ) (acts : List ℕ) (i : ℕ) → i < length acts → Reaches m s acts → Applies m (state_at m s acts i) (get_or acts i 0)
applies_at m s [] i lt r = absurd (omega arith)
applies_at m s (a ∷ acts) zero lt r = r.0
applies_at m s (a ∷ acts) (suc i) lt r = applies_at m (after m s a) acts i (omega arith) r.1

pub bit_after : (m : Meaning) (s a f : ℕ) → f < m.facts → bit (after m s a) f ≡ put (m.makes a f) (bit s f)
bit_after m s a f lt = bit_packed _ m.facts f lt

module _ (m : Meaning) (lw : Lawful m) (acts : List ℕ) (sol : Solves m acts) where
  abbrev at : ℕ → ℕ
  at i = state_at m (start_state m) acts i

  is_shown : (i f : ℕ) (v : Bool) → (trace m acts).possible i f v ≡ true → bit (at i) f ≡ v
  is_shown i f v e = is_value v (bit (at i) f) (and_parts _ _ e).1

  is_hidden : (i f : ℕ) (v : Bool) → i ≤ length acts → f < m.facts → (trace m acts).possible i f v ≡ false → bit (at i) f ≡ not v
  is_hidden i f v le lt e =
      elim (and_cases _ _ e)
      [ inl x ↦ absurd (both_ways _ x (and_from _ _ (le-leb _ _ le) (lt-ltb _ _ lt))) | inr y ↦ hidden (bit (at i) f) v y ]

  is_showing : (i f : ℕ) (v : Bool) → i ≤ length acts → f < m.facts → bit (at i) f ≡ v → (trace m acts).possible i f v ≡ true
  is_showing i f v le lt e = and_from _ _ (and_from _ _ (le-leb _ _ le) (lt-ltb _ _ lt)) (value_is v (bit (at i) f) e)

  module _ (i : ℕ) (lt : i < length acts) where
    abbrev act : ℕ
    act = get_or acts i 0

    own : (trace m acts).left i act ≡ true
    own = and_from _ _ (lt-ltb _ _ lt) (eq-eqb _ _ refl)

    same : (b : ℕ) → (trace m acts).left i b ≡ true → b ≡ act
    same b e = eqb-true _ _ (and_parts _ _ e).1

    next : (f : ℕ) → f < m.facts → bit (at (suc i)) f ≡ put (m.makes act f) (bit (at i) f)
    next f l = ap (λ s. bit s f) (state_next m (start_state m) acts i lt) ∙ bit_after m (at i) act f l

    met : (f : ℕ) (v : Bool) → f < m.facts → m.needs act f ≡ value v → bit (at i) f ≡ v
    met f v l e = held (m.needs act f) (bit (at i) f) ((applies_at m (start_state m) acts i lt sol).met f l) v e

    eff : (f : ℕ) (v : Bool) → Effect (m.makes act f) v (bit (at i) f)
    eff f v = effect (m.makes act f) (lw.makes_three act f) v (bit (at i) f)

    settled : Settled m (stage (trace m acts) i)
    settled = record {
      neither_possible_before_nor_made = λ f v l e r.
          let new = is_shown (suc i) f v e in
          let old = is_hidden i f v (omega arith) l r.0 in
          let n = next f l in
          elim (eff f v) [ makes z p ↦ r.1 act own z | spoils z p ↦ not_self v (sym new ∙ n ∙ p) | spares x y p ↦ not_self v (sym new ∙ n ∙ p ∙ old) ];
      opposite_always_made = λ f v l e r.
          let new = is_shown (suc i) f v e in
          let n = next f l in
          let z = r act own in
          elim (eff f v) [ makes y p ↦ not_both (m.makes act f) v y z | spoils y p ↦ not_self v (sym new ∙ n ∙ p) | spares x y p ↦ y z ];
      neither_possible_after_nor_undone = λ f v l e r.
          let old = is_shown i f v e in
          let new = is_hidden (suc i) f v (omega arith) l r.0 in
          let n = next f l in
          elim (eff f v) [ makes z p ↦ not_self v (sym p ∙ sym n ∙ new) | spoils z p ↦ r.1 act own z | spares x y p ↦ not_self v (sym old ∙ sym p ∙ sym n ∙ new) ];
      opposite_always_needed = λ f v l e r. not_self v (sym (is_shown i f v e) ∙ met f (not v) l (r act own ∙ opposed v));
      needs_the_impossible = λ b e r.
          let need : m.needs act r.0 ≡ value r.1 = ap (λ x. m.needs x r.0) (sym (same b e)) ∙ r.3 in
          not_self r.1 (sym (met r.0 r.1 r.2 need) ∙ is_hidden i r.0 r.1 (omega arith) r.2 r.4);
      makes_the_impossible = λ b e r.
          let f = r.0 in
          let v = r.1 in
          let make : m.makes act f ≡ value v = ap (λ x. m.makes x f) (sym (same b e)) ∙ r.3 in
          let new = is_hidden (suc i) f v (omega arith) r.2 r.4 in
          elim (eff f v) [ makes z p ↦ not_self v (sym p ∙ sym (next f r.2) ∙ new) | spoils z p ↦ not_both (m.makes act f) v make z | spares x y p ↦ x make ];
      misses_a_required_change = λ b e r.
          let f = r.0 in
          let v = r.1 in
          let old = is_hidden i f v (omega arith) r.2 r.3 in
          let new = is_hidden (suc i) f (not v) (omega arith) r.2 r.4 in
          let n = next f r.2 in
          elim (eff f v) [ makes z p ↦ r.5 (ap (λ x. m.makes x f) (same b e) ∙ z) | spoils z p ↦ not_self (not v) (sym p ∙ sym n ∙ new) | spares x y p ↦ not_self (not v) (sym old ∙ sym p ∙ sym n ∙ new) ];
    }

  pub trace_consistent : Consistent m (trace m acts)
  trace_consistent = record {
    closed = settled;
    action = λ i lt none. both_ways _ (none (get_or acts i 0)) (own i lt);
    value = λ i f le lt. either i f le lt (bit (at i) f) refl;
  }
    where
      either : (i f : ℕ) → i ≤ length acts → f < m.facts → (b : Bool) → bit (at i) f ≡ b → ((trace m acts).possible i f true || (trace m acts).possible i f false) ≡ true
      either i f le lt true e = or_left _ _ (is_showing i f true le lt e)
      either i f le lt false e = or_right _ _ (is_showing i f false le lt e)

  -- a plan has only actions and facts of the task
  pub trace_trimmed : (p : Structure) → Inside m p acts → Below (trace m acts) (trimmed m p)
  trace_trimmed p s = record {
    round = s.round;
    left = λ i b lt e.
        let below : i < length acts = subst (λ (n : ℕ). i < n) (sym s.round) lt in
        let may : m.usable b ≡ true = subst (λ (x : ℕ). m.usable x ≡ true) (sym (same i below b e)) (applies_at m (start_state m) acts i below sol).usable in
        and_from _ _ (and_from _ _ (lt-ltb _ _ lt) (lt-ltb _ _ (usable_below m lw b may))) (s.left i b lt e);
    possible = λ i f v le e.
        let w = and_parts _ _ e in
        and_from _ _ (and_from _ _ (le-leb _ _ le) (and_parts _ _ w.0).1) (s.possible i f v le e);
  }

pub traced : TheTraceOfAPlanIsConsistent
traced m lw acts sol = trace_consistent m lw acts sol

pub loses_none : FilteringLosesNoPlan
loses_none m lw p q stands (kept is large) acts sol s = (is, large.above (trace m acts) (trace_consistent m lw acts sol) (trace_trimmed m lw acts sol p s))
loses_none m lw p q stands (wiped not_so none bare_q) acts sol s = absurd (none (trace m acts) (trace_consistent m lw acts sol) (trace_trimmed m lw acts sol p s))
