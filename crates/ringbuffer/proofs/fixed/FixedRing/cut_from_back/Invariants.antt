-- So far as many items are moved to the other side of the gap as turns were taken.
use Rattle.ringbuffer.proofs.Words.{LaysApart, after_cut, view_from, ◌+◌, ◌-◌}
use Rattle.ringbuffer.proofs.fixed.FixedRing.cut_from_back.Given as goal

abbrev pub invariant-loop-moved : goal.invariant-loop-moved
invariant-loop-moved g l =
    let old = g.S.RingSlots.seen l.fn.slots in
    LaysApart old (g.S.RingSlots.seen l.slots) l.span.start (l.from + l.moved) (l.to - l.from) (after_cut l.from l.to l.moved (view_from old l.span.start))
