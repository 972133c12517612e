-- So far as many items that the source gave are pushed as turns were taken.
use Rattle.ringbuffer.proofs.Words.{List, true, Gives}
use Rattle.ringbuffer.proofs.PushedStretch.{Pushed}
use Rattle.ringbuffer.proofs.fixed.FixedRing.push_stretch.Given as goal

abbrev pub invariant-loop-i : goal.invariant-loop-i
invariant-loop-i g l =
    (xs : List _) × Gives g.I.Iterator.can_next g.I.Iterator.next_gives g.I.Iterator.remaining true l.initial.items xs l.items
    × Pushed (g.S.RingSlots.seen l.initial.slots) l.span l.capacity l.full (g.S.RingSlots.seen l.slots) l.i xs
