-- So far what the source gave is pushed.
use Rattle.ringbuffer.proofs.Words.{List, true, Gives, PushesOnto}
use Rattle.ringbuffer.proofs.fixed.FixedRing.push_all.Given as goal

abbrev pub invariant-loop-item : goal.invariant-loop-item
invariant-loop-item g l =
    (xs : List _) × Gives g.I.Iterator.can_next g.I.Iterator.next_gives g.I.Iterator.remaining true l.fn.items xs l.items
    × PushesOnto (g.S.RingSlots.seen l.fn.slots) (g.S.RingSlots.seen l.slots) l.fn.span l.span l.capacity xs
