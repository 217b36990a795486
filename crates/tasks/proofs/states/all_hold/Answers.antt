use Rattle.std.proofs.Common.{◌≡◌, ℕ, ◌^◌, ◌<◌, Bool, ◌&&◌, ltb, sym, ap, ◌∙◌, rules}
use Rattle.std.proofs.lemmas.Bool.{lt-ltb}
use Rattle.sets.specs.Bits.{bit}
use Rattle.sets.specs.Sets.{has}
use Rattle.sets.specs.Signs.{is}
use Rattle.tasks.proofs.Acting.{has_below, is_value, value_is, left_none, none_left}
use Rattle.tasks.proofs.states.all_hold.Goals as goal

pub returns : goal.returns
returns c =
    let set = c.args.literals in
    let s = c.args.state in
    let ts : set.trues.bits < 2 ^ 64 = search rules in
    let fs : set.falses.bits < 2 ^ 64 = search rules in
    let shown : (f : ℕ) (v : Bool) → has c.of_state.result f v ≡ (ltb f 64 && is v (bit s f)) = c.of_state.ensures.value in (
      λ e f v there.
          let l = has_below set ts fs f v there in
          is_value v (bit s f) (sym (ap (λ b. b && is v (bit s f)) (lt-ltb f 64 l)) ∙ sym (shown f v)
          ∙ left_none (has set f v) (has c.of_state.result f v) there (sym (c.without.ensures.value f v) ∙ c.is_empty.ensures.value.0 e f v)),
      λ all. c.is_empty.ensures.value.1 (λ f v.
          c.without.ensures.value f v ∙ none_left (has set f v) (has c.of_state.result f v) (λ there.
          let l = has_below set ts fs f v there in
          shown f v ∙ ap (λ b. b && is v (bit s f)) (lt-ltb f 64 l) ∙ value_is v (bit s f) (all f v there))),
    )
