-- The test may be called again, and the items that were asked about close up.
use Rattle.ringbuffer.proofs.Words.{◌≤◌, CalledAt}
use denote.Param.Always.{always_mut}
use Rattle.ringbuffer.proofs.KeptItems.{ClosesUp}
use Rattle.ringbuffer.proofs.fixed.FixedRing.close_up.Given as goal

abbrev pub invariant-loop-index : goal.invariant-loop-index
invariant-loop-index g l = record {
  callable : always_mut g.F.FnMut l.keep;
  within : l.kept ≤ l.index;
  closes : ClosesUp (CalledAt g.F.FnMut) l.initial.keep (g.S.RingSlots.seen l.initial.slots) l.span.start (g.S.RingSlots.seen l.slots) l.keep l.index l.kept;
}
