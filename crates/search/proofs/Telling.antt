-- Some number below n passes: one more number; and what is told of the levels.
use Rattle.std.proofs.Common.{◌≡◌, ℕ, ◌+◌, ◌-◌, Bool, ◌||◌, List, [], None, Option, refl, ap, add-one}
use Rattle.tasks.specs.Meaning.{Meaning}
use Rattle.filter.specs.Structures.{Structure}
use Rattle.filter.specs.Plans.{state_of}
use Rattle.search.specs.Machines.{Entry}
use Rattle.search.specs.Steps.{some_below, told}

pub some_step : (g : ℕ → Bool) (n : ℕ) → some_below (n + 1) g ≡ (g n || some_below n g)
unfolding some_below
some_step g n = ap (λ k. some_below k g) (add-one n)

-- what is told of a level does not depend on the bound, the parent or the entries below
pub told_is : (m : Meaning) (recall hopeless : ℕ → ℕ → Bool) (bound k : ℕ) (from : Option ℕ) (q : Structure) (rest : List Entry) (j : ℕ)
    → told m recall hopeless bound k from q rest j ≡ (recall (state_of m q j) (k - j) || hopeless (state_of m q j) (k - j))
unfolding told
told_is m recall hopeless bound k from q rest j = refl

pub told_same : (m : Meaning) (recall hopeless : ℕ → ℕ → Bool) (bound k : ℕ) (from : Option ℕ) (q : Structure) (rest : List Entry) (n : ℕ)
    → some_below n (told m recall hopeless 0 k None q []) ≡ some_below n (told m recall hopeless bound k from q rest)
unfolding told
told_same m recall hopeless bound k from q rest n = refl
