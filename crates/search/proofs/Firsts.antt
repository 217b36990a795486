-- The first part of a round, level by level: a value is left unless the start or a goal says the opposite.
use Rattle.std.proofs.Common.{◌≡◌, ℕ, zero, suc, ◌<◌, ◌≤◌, min, Bool, true, false, not, ◌&&◌, eqb, ltb, leb, List, length, get_or, set, ℤ, pos, negsuc, sym, refl, ap, ◌∙◌, ap₂, inl, inr, arith, length-set}
use Rattle.std.proofs.lemmas.List.{get_or-set_same, get_or-set_other}
use Rattle.std.proofs.Math.Bool.{and-true, and_assoc}
use Rattle.std.proofs.lemmas.Bool.{cases_eq, cases_lt, eq-eqb, ne_eqb, le-leb, le-ltb, lt-leb, lt-ltb}
use Rattle.sets.specs.Bits.{bit}
use Rattle.sets.specs.Sets.{among, has, ActionSet}
use Rattle.sets.specs.Signs.{is, says}
use Rattle.sets.specs.declared.literals.Literals.{Literals}
use Rattle.tasks.specs.Layers.{start_two}
use Rattle.tasks.specs.Meaning.{Meaning, Lawful, Two}
use Rattle.tasks.specs.Rows.{starts}
use Rattle.tasks.specs.States.{packed, put, start_state}
use Rattle.tasks.proofs.Packing.{bit_packed}
use Rattle.filter.specs.declared.part.Part.{Part}
use Rattle.filter.specs.Parts.{level_at, no_literals, step_at, structure}
use Rattle.filter.proofs.Uniqueness.{same_structure}
use Rattle.search.specs.Steps.{first_part}

-- a test under a bound has to be shown within the bound only
pub when_below : (i n : ℕ) (x y : Bool) → (i < n → x ≡ y) → (ltb i n && x) ≡ (ltb i n && y)
when_below i n x y h = elim (cases_lt i n) [
  | inl l ↦ ap (λ (b : Bool). ltb i n && b) (h l)
  | inr l ↦ rw (le-ltb i n l)
]

pub when_upto : (i n : ℕ) (x y : Bool) → (i ≤ n → x ≡ y) → (leb i n && x) ≡ (leb i n && y)
when_upto i n x y h = elim (cases_lt n i) [
  | inl l ↦ rw (lt-leb i n l)
  | inr l ↦ ap (λ (b : Bool). leb i n && b) (h l)
]

-- the usable actions are actions of the task
pub usable_is : (m : Meaning) → Lawful m → (a : ℕ) → m.usable a ≡ (ltb a m.actions && m.usable a)
usable_is m law a = elim (cases_lt a m.actions) [
  | inl l ↦ rw (lt-ltb a m.actions l)
  | inr l ↦ rw (le-ltb a m.actions l) (law.usable_past a l)
]

-- the value that the start gives a fact is the one whose opposite is not said
not_against : (z : ℤ) (v : Bool) → Two z → is v (put z false) ≡ not (says z (not v))
not_against (pos zero) v two = absurd (let z : ⊥ = omega (arith, two) in z)
not_against (pos (suc zero)) true two = refl
not_against (pos (suc zero)) false two = refl
not_against (pos (suc (suc n))) v two = absurd (let z : ⊥ = omega (arith, two) in z)
not_against (negsuc zero) true two = refl
not_against (negsuc zero) false two = refl
not_against (negsuc (suc n)) v two = absurd (let z : ⊥ = omega (arith, two) in z)

-- level 0 has the start, whichever numbers give it
started_level : (facts : ℕ) (start : ℕ → ℤ) → ((f : ℕ) → f < facts → Two (start f)) → (x f : ℕ) (v : Bool) → facts ≤ 64
    → x ≡ packed (λ g. put (start g) false) facts → (ltb f (min facts 64) && is v (bit x f)) ≡ (ltb f facts && not (says (start f) (not v)))
started_level facts start two x f v few e =
    let same : min facts 64 ≡ facts = omega arith in
    ap (λ (n : ℕ). ltb f n && is v (bit x f)) same
    ∙ when_below f facts (is v (bit x f)) (not (says (start f) (not v))) (λ l.
    ap (λ (y : ℕ). is v (bit y f)) e
    ∙ ap (is v) (bit_packed (λ g. put (start g) false) facts f l)
    ∙ not_against (start f) v (two f l))

-- level 0 has the start of a task
pub task_start_level : (m : Meaning) → Lawful m → (x f : ℕ) (v : Bool) → x ≡ start_state m
    → (ltb f (min m.facts 64) && is v (bit x f)) ≡ (ltb f m.facts && not (says (m.start f) (not v)))
task_start_level m law x f v e = started_level m.facts m.start law.start_two x f v law.facts_most e

-- level 0 has the start that a state gives
pub start_level : (facts state x f : ℕ) (v : Bool) → facts ≤ 64 → x ≡ packed (λ g. put (starts facts state g) false) facts
    → (ltb f (min facts 64) && is v (bit x f)) ≡ (ltb f facts && not (says (starts facts state f) (not v)))
start_level facts state x f v few e = started_level facts (starts facts state) (start_two facts (bit state)) x f v few e

at_last : (b a g : Bool) → ((b && a) && not g) ≡ ((true && b) && (a && not (true && g)))
at_last true a g = refl
at_last false a g = refl

before_last : (b a g : Bool) → (b && a) ≡ ((true && b) && (a && not (false && g)))
before_last true true g = refl
before_last true false g = refl
before_last false a g = refl

-- levels that are alike, but for the start in level 0 and without what is against a goal in level k
module _ (m : Meaning) (k : ℕ) (levels : List Literals) (all first last against less : Literals) (few : k ≤ 30) (long : length levels ≡ 31)
    (alike : (i : ℕ) → i < 31 → get_or levels i no_literals ≡ all)
    (all_is : (f : ℕ) (v : Bool) → has all f v ≡ ltb f m.facts)
    (first_is : (f : ℕ) (v : Bool) → has first f v ≡ (ltb f m.facts && not (says (m.start f) (not v))))
    (last_is : last ≡ get_or (set levels 0 first) k no_literals)
    (against_is : (f : ℕ) (v : Bool) → has against f v ≡ says (m.goal f) (not v))
    (less_is : (f : ℕ) (v : Bool) → has less f v ≡ (has last f v && not (has against f v))) where
  started : (i f : ℕ) (v : Bool) → i < 31 → has (get_or (set levels 0 first) i no_literals) f v ≡ (ltb f m.facts && not (eqb i 0 && says (m.start f) (not v)))
  started i f v lt = elim (cases_eq i 0) [
    | inl e ↦ ap (λ (j : ℕ). has (get_or (set levels 0 first) j no_literals) f v) e
        ∙ ap (λ (x : Literals). has x f v) (get_or-set_same levels 0 first no_literals (omega arith))
        ∙ first_is f v ∙ ap (λ (b : Bool). ltb f m.facts && not (b && says (m.start f) (not v))) (sym (eq-eqb i 0 e))
    | inr ne ↦ ap (λ (x : Literals). has x f v) (get_or-set_other levels 0 i first no_literals ne ∙ alike i lt)
        ∙ all_is f v ∙ sym (and-true (ltb f m.facts)) ∙ ap (λ (b : Bool). ltb f m.facts && not (b && says (m.start f) (not v))) (sym (ne_eqb i 0 ne))
  ]

  pub first_levels : (i f : ℕ) (v : Bool) → i ≤ k → has (get_or (set (set levels 0 first) k less) i no_literals) f v ≡ (first_part m k).possible i f v
  unfolding first_part
  first_levels i f v le =
      let begun = λ (j : ℕ). not (eqb j 0 && says (m.start f) (not v)) in
      let facts = ltb f m.facts in
      let goal = says (m.goal f) (not v) in
      let inside : k < length (set levels 0 first) = omega (arith, length-set levels 0 first) in
      elim (cases_eq i k) [
        | inl e ↦ ap (λ (j : ℕ). has (get_or (set (set levels 0 first) k less) j no_literals) f v) e
            ∙ ap (λ (x : Literals). has x f v) (get_or-set_same (set levels 0 first) k less no_literals inside)
            ∙ less_is f v ∙ ap₂ (λ (x y : Bool). x && not y) (ap (λ (x : Literals). has x f v) last_is ∙ started k f v (omega arith) ∙ ap (λ (j : ℕ). facts && begun j) (sym e)) (against_is f v)
            ∙ at_last facts (begun i) goal
            ∙ ap₂ (λ (x y : Bool). (x && facts) && (begun i && not (y && goal))) (sym (le-leb i k le)) (sym (eq-eqb i k e))
        | inr ne ↦ ap (λ (x : Literals). has x f v) (get_or-set_other (set levels 0 first) k i less no_literals ne)
            ∙ started i f v (omega arith) ∙ before_last facts (begun i) goal
            ∙ ap₂ (λ (x y : Bool). (x && facts) && (begun i && not (y && goal))) (sym (le-leb i k le)) (sym (ne_eqb i k ne))
      ]

again : (l b a : Bool) → (l && ((l && b) && a)) ≡ ((l && b) && a)
again true b a = refl
again false b a = refl

pub first_structure : (m : Meaning) → Lawful m → (p : Part) (usable : ActionSet) → p.round ≤ 30 → ((a : ℕ) → among usable a ≡ m.usable a)
    → ((i : ℕ) → i < 30 → step_at p i ≡ usable)
    → ((i f : ℕ) (v : Bool) → i ≤ p.round → has (level_at p i) f v ≡ (first_part m p.round).possible i f v)
    → structure p ≡ first_part m p.round
unfolding first_part
first_structure m law p usable few usable_are steps levels =
    same_structure (structure p) (first_part m p.round) refl
    (λ i a. when_below i p.round (among (step_at p i) a) (ltb a m.actions && m.usable a) (λ l. ap (λ (s : ActionSet). among s a) (steps i (omega arith)) ∙ usable_are a ∙ usable_is m law a)
    ∙ sym (and_assoc (ltb i p.round) (ltb a m.actions) (m.usable a)))
    (λ i f v. when_upto i p.round (has (level_at p i) f v) ((first_part m p.round).possible i f v) (levels i f v)
    ∙ again (leb i p.round) (ltb f m.facts) _)
