-- what the items from the index on say is what all items say
use Rattle.ringbuffer.proofs.Words.{◌≡◌, drop, pointwise}
use Rattle.ringbuffer.proofs.grow.GrowableAllocRingBufferRingBuffer.eq_slice.Given as goal

abbrev pub invariant-loop-i : goal.invariant-loop-i
invariant-loop-i g l = pointwise g.T.PartialEq.eq (drop l.i l.self) (drop l.i l.items) ≡ pointwise g.T.PartialEq.eq l.self l.items
