use Rattle.std.proofs.Common.{max, get_or, ◌<◌, ◌≤◌, ◌∙◌, length, sym, refl, arith}
use Rattle.memories.proofs.Finding.{first_from_position, absent_from_position, keep_row-first, keep_row-room, keep_row-full, no_row, refill_same, is_kept}
use Rattle.memories.specs.Rows.{row}
use Rattle.memories.proofs.Chaining.{chained_raised, chained_added}
use Rattle.memories.proofs.list.ListMemoryMemory.keep.Goals as goal

pub invariant_of-self : goal.invariant_of-self
invariant_of-self c =
    let m = c.self.inside in
    let first = first_from_position m.rows.items c.args.state c.in-Some.at (rw (← c.self.view_is) at (sym c.place.ensures ∙ c.in-Some.is)) in
    rw (c.deref_mut.ensures.value, refill_same) (chained_raised m.rows.items m.heads m.links c.in-Some.at _ first.within refl c.self.invariant)

pub invariant_of-self-then-not-is_full : goal.invariant_of-self-then-not-is_full
invariant_of-self-then-not-is_full c =
    let m = c.self.inside in
    let absent = absent_from_position m.rows.items c.args.state (rw (← c.self.view_is) at (sym c.place.ensures ∙ c.in_default.is)) in
    let room : length m.rows.items < 256 = grind arith in
    rw (c.push.ensures.items, c.len-at.ensures.value, c.slot_of-slot.ensures.value)
    (chained_added m.rows.items m.heads m.links _ (rw c.slot_of-slot.ensures.value at c.slot_of-slot.ensures.within) room absent c.self.invariant)

pub returns-in-Some : goal.returns-in-Some
returns-in-Some c =
    let m = c.self.inside in
    let first = first_from_position m.rows.items c.args.state c.in-Some.at (rw (← c.self.view_is) at (sym c.place.ensures ∙ c.in-Some.is)) in
    let kept = keep_row-first 256 m.rows.items c.args.state c.args.left c.in-Some.at first in
    let whole = refill_same m.rows.items c.in-Some.at (row c.args.state (max (get_or m.rows.items c.in-Some.at no_row).left c.args.left)) in
    let here = first.here in
    let few : length m.rows.items ≤ 256 = grind arith in
    record { after = rw (← c.self.view_is) (is_kept m.rows.items _ c.args.state c.args.left few c.self.invariant.apart cc) }

pub returns-then-not-is_full : goal.returns-then-not-is_full
returns-then-not-is_full c =
    let m = c.self.inside in
    let absent = absent_from_position m.rows.items c.args.state (rw (← c.self.view_is) at (sym c.place.ensures ∙ c.in_default.is)) in
    let room : length m.rows.items < 256 = grind arith in
    record { after = rw (← c.self.view_is) (is_kept m.rows.items _ c.args.state c.args.left (omega arith) c.self.invariant.apart (c.push.ensures.items ∙ sym (keep_row-room 256 m.rows.items c.args.state c.args.left absent room))) }

pub returns-else-not-is_full : goal.returns-else-not-is_full
returns-else-not-is_full c =
    let m = c.self.inside in
    let absent = absent_from_position m.rows.items c.args.state (rw (← c.self.view_is) at (sym c.place.ensures ∙ c.in_default.is)) in
    let full : 256 ≤ length m.rows.items = grind arith in
    let few : length m.rows.items ≤ 256 = grind arith in
    record { after = rw (← c.self.view_is) (is_kept m.rows.items _ c.args.state c.args.left few c.self.invariant.apart (sym (keep_row-full 256 m.rows.items c.args.state c.args.left absent full))) }
