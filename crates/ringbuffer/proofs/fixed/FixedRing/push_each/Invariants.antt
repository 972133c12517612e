-- So far the items that the source gave are pushed.
use Rattle.ringbuffer.proofs.Words.{◌≡◌, ◌≤◌, length, after_extend, view_from, LaysOut}
use Rattle.ringbuffer.proofs.fixed.FixedRing.push_each.Given as goal

abbrev pub invariant-loop-item : goal.invariant-loop-item
invariant-loop-item g l =
    let now = after_extend l.fn.capacity (view_from (g.S.RingSlots.seen l.initial.slots) l.fn.span.start) l.yielded in
    record {
      can_next : (goal.iterator-loop-item g).can_next l.item-iterator;
      ends : (goal.iterator-loop-item g).is_finite l.item-iterator;
      lays_out : LaysOut (g.S.RingSlots.seen l.initial.slots) (g.S.RingSlots.seen l.slots) l.span.start now;
      len : l.span.len ≡ length now.items;
      within : l.span.len ≤ l.fn.capacity;
    }
