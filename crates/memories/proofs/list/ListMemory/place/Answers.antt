use Rattle.std.proofs.Common.{sym}
use Rattle.memories.proofs.Finding.{position-first, position-absent}
use Rattle.memories.proofs.Chaining.{walks_from_head, walks_within, walks_on, walks_down, walks_to_first, walks_to_end}
use Rattle.memories.proofs.list.ListMemory.place.Goals as goal

pub loop-next-init : goal.loop-next-init
loop-next-init c =
    let m = c.self.inside in
    rw c.slot_of.ensures.value (walks_from_head m.rows.items m.heads m.links c.self.invariant c.args.state (rw c.slot_of.ensures.value at c.slot_of.ensures.within))

pub bounds-deref-at : goal.bounds-deref-at
bounds-deref-at c =
    let m = c.self.inside in
    rw (c.deref.ensures.0, c.from-at.ensures) (walks_within m.rows.items m.heads m.links c.self.invariant c.args.state c.in-Some.at (rw c.in-Some.is at c.loop-next.invariant))

pub returns-then-deref-at : goal.returns-then-deref-at
returns-then-deref-at c =
    let m = c.self.inside in
    let here = rw (c.deref.ensures.0, c.from-at.ensures) at c.if-deref-at.true in
    rw (c.from-at.ensures, ← c.self.view_is)
    (sym (position-first m.rows.items c.args.state c.in-Some.at (walks_to_first m.rows.items m.heads m.links c.self.invariant c.args.state c.in-Some.at (rw c.in-Some.is at c.loop-next.invariant) here)))

pub loop-next-smaller : goal.loop-next-smaller
loop-next-smaller c =
    let m = c.self.inside in
    rw (c.in-Some.is, c.from-at.ensures) (walks_down m.rows.items m.heads m.links c.self.invariant c.args.state c.in-Some.at (rw c.in-Some.is at c.loop-next.invariant))

pub loop-next-preserved : goal.loop-next-preserved
loop-next-preserved c =
    let m = c.self.inside in
    let other = rw (c.deref.ensures.0, c.from-at.ensures) at c.if-deref-at.false in
    rw c.from-at.ensures (walks_on m.rows.items m.heads m.links c.self.invariant c.args.state c.in-Some.at (rw c.in-Some.is at c.loop-next.invariant) other)

pub returns : goal.returns
returns c =
    let m = c.self.inside in
    let over = rw c.in_default.is at c.loop-next.invariant in
    rw (← c.self.view_is) (sym (position-absent m.rows.items c.args.state (walks_to_end m.rows.items m.heads m.links c.self.invariant c.args.state over)))
