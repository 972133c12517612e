-- So far as many items went from the back to the front as turns were taken.
use Rattle.ringbuffer.proofs.Words.{after_lasts_to_front, LaysOut, view_from}
use Rattle.ringbuffer.proofs.fixed.FixedRing.lasts_to_front.Given as goal

abbrev pub invariant-loop : goal.invariant-loop
invariant-loop g l =
    let old = g.S.RingSlots.seen l.initial.slots in
    record { lays_out : LaysOut old (g.S.RingSlots.seen l.slots) l.start (after_lasts_to_front l.counter (view_from old l.fn.span.start)) }
