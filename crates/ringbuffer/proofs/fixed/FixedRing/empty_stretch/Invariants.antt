-- So far the slots up to a place are emptied.
use Rattle.ringbuffer.proofs.Words.{Empties}
use Rattle.ringbuffer.proofs.fixed.FixedRing.empty_stretch.Given as goal

abbrev pub invariant-loop-place : goal.invariant-loop-place
invariant-loop-place g l = Empties (g.S.RingSlots.seen l.initial.slots) (g.S.RingSlots.seen l.slots) l.from l.place
