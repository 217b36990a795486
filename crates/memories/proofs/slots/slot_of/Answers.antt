use Rattle.std.proofs.Common.{◌≡◌, ◌∙◌, ◌/◌, ap, rules, tests, fold, bit_xor, List, ℕ, arith}
use Rattle.std.proofs.lemmas.Iterator.{YieldsList-from_slice}
use Rattle.std.proofs.lemmas.Iterator.Consumers.{fold_from_yields_List}
use Rattle.memories.specs.Slots.{slot_of, xor_bytes}
use Rattle.std.specs.Int.{to_le_bytes, w64}
use Rattle.memories.proofs.slots.slot_of.Goals as goal

slot_of-bytes : (s : ℕ) → fold bit_xor 0 (to_le_bytes w64 s) ≡ slot_of s
unfolding xor_bytes
slot_of-bytes s = let one : s / 1 ≡ s = omega arith in rw one

pub returns-clause-value : goal.returns-clause-value
returns-clause-value c =
    c.from.ensures
    ∙ fold_from_yields_List _ bit_xor 0 c.fold.result c.fold.ensures.ran (YieldsList-from_slice c.to_le_bytes.result cc) (λ a x b q k. search (rules, tests))
    ∙ ap (λ (bytes : List ℕ). fold bit_xor 0 bytes) c.to_le_bytes.ensures
    ∙ slot_of-bytes c.args.state
