-- What the numbers 1, 0 and -1 do to a fact.
use Rattle.std.proofs.Common.{◌≡◌, ℕ, zero, suc, Bool, true, false, not, ℤ, pos, negsuc, sym, refl, arith}
use Rattle.sets.specs.Signs.{is}
use Rattle.tasks.specs.Meaning.{value, opposite, Three}
use Rattle.tasks.specs.States.{put}

pub never : {X : Type 0} → ◌≡◌ {A = ℕ} 0 1 → X
never z = absurd (let b : ⊥ = omega arith in b)

pub not_self : {X : Type 0} (v : Bool) → v ≡ not v → X
not_self true e = never cc
not_self false e = never cc

-- the opposite of a value is the other value
pub opposed : (v : Bool) → opposite (value v) ≡ value (not v)
opposed true = refl
opposed false = refl

-- a number makes a value, spoils it, or spares what there is
pub data Effect (z : ℤ) (v b : Bool) : Type 0 where
  makes : z ≡ value v → put z b ≡ v → Effect z v b
  spoils : z ≡ opposite (value v) → put z b ≡ not v → Effect z v b
  spares : (z ≡ value v → ⊥) → (z ≡ opposite (value v) → ⊥) → put z b ≡ b → Effect z v b

pub effect : (z : ℤ) → Three z → (v b : Bool) → Effect z v b
effect (pos zero) h true b = spares (λ e. never cc) (λ e. never cc) refl
effect (pos zero) h false b = spares (λ e. never cc) (λ e. never cc) refl
effect (pos (suc zero)) h true b = makes refl refl
effect (pos (suc zero)) h false b = spoils refl refl
effect (pos (suc (suc n))) h v b = absurd (omega arith)
effect (negsuc zero) h true b = spoils refl refl
effect (negsuc zero) h false b = makes refl refl
effect (negsuc (suc n)) h v b = absurd (omega arith)

-- one number is not a value and its opposite
pub not_both : {X : Type 0} (z : ℤ) (v : Bool) → z ≡ value v → z ≡ opposite (value v) → X
not_both z true p q = never cc
not_both z false p q = never cc

-- 0 is no value
pub no_value : {X : Type 0} (v : Bool) → pos 0 ≡ value v → X
no_value true e = never cc
no_value false e = never cc

-- what a trace hides of a fact that is b
pub hidden : (b v : Bool) → is v b ≡ false → b ≡ not v
hidden b true e = e
hidden true false e = refl
hidden false false e = sym e
