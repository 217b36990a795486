-- From the law of a run to the law of what stands: the verdict that is told, and the plan that stands.
use Rattle.std.proofs.Common.{◌≡◌, ℕ, ◌≤◌, Bool, true, false, cond, ltb, List, length, Some, None, sym, refl, ap, ◌∙◌, subst, arith}
use Rattle.std.proofs.lemmas.Bool.{ltb-true}
use Rattle.tasks.specs.Meaning.{Meaning}
use Rattle.tasks.specs.States.{Shortest, Solvable}
use Rattle.filter.proofs.Values.{never}
use Rattle.search.specs.declared.refusal.Refusal.{Refusal}
use Rattle.search.specs.declared.verdict.Verdict.{Verdict}
use Rattle.search.specs.declared.verdict.Verdict.TheVariants as verdict
use Rattle.search.specs.Ceiling.{ceiling}
use Rattle.search.specs.Machines.{Machine, Stage}
use Rattle.search.specs.Machines.Stage.{blank, unfinished, found, none}
use Rattle.search.specs.Played.{StandsLawfully, Tally}
use Rattle.search.specs.Plays.{plan_standing}
use Rattle.search.specs.Runs.{HasRoomFor, TheLaw, verdict_of}
use Rattle.search.proofs.Holding.{not_blank}
use Rattle.search.proofs.Playing.{Fits, begun_or}

-- where the first number is not above the second, the test of it refuses nothing
pub not_refused : (j n : ℕ) (e e' : Refusal) → n ≤ j → cond (ltb j n) (Some e) None ≡ Some e' → ⊥
not_refused j n e e' le r = go (ltb j n) refl r
  where
    go : (b : Bool) → ltb j n ≡ b → cond b (Some e) None ≡ Some e' → ⊥
    go true t r = let lt = ltb-true j n t in omega (arith, lt, le)
    go false t r = never cc

abbrev number : Verdict → ℕ
number verdict.Blank = 0
number verdict.Unfinished = 0
number (verdict.Found n) = n
number (verdict.None k) = k

pub blank_told : (s : Stage) (K : ℕ) → verdict_of s K ≡ verdict.Blank → s ≡ blank
blank_told blank K e = refl
blank_told unfinished K e = never cc
blank_told (found p) K e = never cc
blank_told none K e = never cc

module _ (m : Meaning) (t : Tally) (S : Machine) (fits : Fits t S) (law : TheLaw S.stage S.bound m t.amount) (within : HasRoomFor S.stage S.bound) where
  bounded : (S.stage ≡ blank → ⊥) → S.bound ≡ t.bound
  bounded n = fits.bound (begun_or t S fits n).0

  decides : t.opened ≡ true → ceiling m t.bound ≤ t.amount
      → ((n : ℕ) → verdict_of S.stage S.bound ≡ verdict.Found n → Solvable m t.bound) × (Solvable m t.bound → (n : ℕ) × (verdict_of S.stage S.bound ≡ verdict.Found n))
      × ((Solvable m t.bound → ⊥) → verdict_of S.stage S.bound ≡ verdict.None t.bound)
  decides o c =
      let k = fits.bound o in
      let d = law.decided (not_blank S.stage (fits.begun o)) (subst (λ (j : ℕ). ceiling m j ≤ t.amount) (sym k) c) in
      let back : Solvable m t.bound → Solvable m S.bound = λ s. subst (λ (j : ℕ). Solvable m j) (sym k) s in (
        λ n e. subst (λ (j : ℕ). Solvable m j) k (d.0 (stands S.stage n e)),
        λ s. let p = d.1 (back s) in (length p.0, ap (λ (s : Stage). verdict_of s S.bound) p.1),
        λ n. ap (λ (s : Stage). verdict_of s S.bound) (d.2 (λ s. n (subst (λ (j : ℕ). Solvable m j) k s))) ∙ ap verdict.None k,
      )
    where
      stands : (s : Stage) (n : ℕ) → verdict_of s S.bound ≡ verdict.Found n → (plan : List ℕ) × (s ≡ found plan)
      stands blank n e = never cc
      stands unfinished n e = never cc
      stands (found p) n e = (p, refl)
      stands none n e = never cc

  finds : (s : Stage) → S.stage ≡ s → (n : ℕ) → verdict_of s S.bound ≡ verdict.Found n → Shortest m (plan_standing s) × (length (plan_standing s) ≡ n) × (n ≤ t.bound)
  finds blank q n e = never cc
  finds unfinished q n e = never cc
  finds (found p) q n e =
      let long : length p ≡ n = ap number e in
      let most = within p q in
      (law.shortest p q, long, omega (arith, most, long, bounded (λ z. let y = q in never cc)))
  finds none q n e = never cc

  denies : (s : Stage) → S.stage ≡ s → (k : ℕ) → verdict_of s S.bound ≡ verdict.None k → (k ≡ t.bound) × (Solvable m t.bound → ⊥)
  denies blank q k e = never cc
  denies unfinished q k e = never cc
  denies (found p) q k e = never cc
  denies none q k e =
      let same = bounded (λ z. let y = q in never cc) in
      (sym (ap number e) ∙ same, λ s. law.nothing q (subst (λ (j : ℕ). Solvable m j) (sym same) s))

  pub stands_lawfully : StandsLawfully m t (verdict_of S.stage S.bound) (plan_standing S.stage)
  stands_lawfully = record {
    shortest = finds S.stage refl;
    nothing = denies S.stage refl;
    decided = decides;
    blank = λ e. ap (λ (s : Stage). verdict_of s S.bound) (fits.fresh e);
    begun = λ o e. not_blank S.stage (fits.begun o) (blank_told S.stage S.bound e);
  }
