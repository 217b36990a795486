-- The test whether an action applies decides that it does.
use Rattle.std.proofs.Common.{◌≡◌, ℕ, zero, suc, Bool, true, ◌&&◌, ℤ, pos, negsuc, Decides, sym, refl, arith}
use Rattle.std.proofs.lemmas.Bool.Decides.{Decides-and, Decides-like, Decides-below_and, same_from_decides}
use Rattle.std.proofs.lemmas.Bool.{not-true, not_from_false}
use Rattle.sets.specs.Bits.{bit}
use Rattle.tasks.specs.Meaning.{Meaning, Lawful, Three}
use Rattle.tasks.specs.States.{Applies, Holds}
use Rattle.exhaustive.specs.Sequences.{agrees, every, applicable}

unlike : {P : Type 0} → pos 0 ≡ pos 1 → P
unlike e = let z : ◌≡◌ {A = ℕ} 0 1 = cc in absurd (omega arith)

crossed : {P : Type 0} (n k : ℕ) → pos n ≡ negsuc k → P
crossed n k e = let z : ◌≡◌ {A = ℕ} 0 1 = cc in absurd (omega arith)

agrees_decides : (z : ℤ) → Three z → (b : Bool) → Decides (agrees z b) (Holds z b)
agrees_decides (pos zero) h b = (λ _. (λ e. unlike e, λ e. crossed 0 0 e), λ _. refl)
agrees_decides (pos (suc zero)) h b = (λ e. (λ _. e, λ x. crossed 1 0 x), λ holds. holds.0 refl)
agrees_decides (pos (suc (suc n))) h b = absurd (omega arith)
agrees_decides (negsuc zero) h b = (λ e. (λ x. crossed 1 0 (sym x), λ _. not-true b e), λ holds. not_from_false b (holds.1 refl))
agrees_decides (negsuc (suc n)) h b = absurd (omega arith)

applicable_decides : (m : Meaning) → Lawful m → (s a : ℕ) → Decides (applicable m s a) (Applies m s a)
unfolding applicable
applicable_decides m law s a =
    let test : ℕ → Bool = λ f. agrees (m.needs a f) (bit s f) in
    let all = Decides-below_and test (λ f. Holds (m.needs a f) (bit s f)) (every test) (λ f. agrees_decides (m.needs a f) (law.needs_three a f) (bit s f)) refl (λ _. refl) m.facts in
    let fit : Decides (m.usable a) (m.usable a ≡ true) = (λ e. e, λ e. e) in
    Decides-like (m.usable a && every test m.facts) (λ both. record { usable = both.0; met = both.1 }) (λ h. (h.usable, h.met))
    (Decides-and (m.usable a) (every test m.facts) fit all)

-- what decides that an action applies is the test
pub is_applicable : (m : Meaning) → Lawful m → (s a : ℕ) (r : Bool) → Decides r (Applies m s a) → r ≡ applicable m s a
is_applicable m law s a r d = same_from_decides r (applicable m s a) d (applicable_decides m law s a)
