-- So far as many items went from the front to the back as turns were taken.
use Rattle.ringbuffer.proofs.Words.{after_firsts_to_back, LaysOut, view_from}
use Rattle.ringbuffer.proofs.fixed.FixedRing.firsts_to_back.Given as goal

abbrev pub invariant-loop : goal.invariant-loop
invariant-loop g l =
    let old = g.S.RingSlots.seen l.initial.slots in
    record { lays_out : LaysOut old (g.S.RingSlots.seen l.slots) l.start (after_firsts_to_back l.counter (view_from old l.fn.span.start)) }
