use Rattle.ring_core.proofs.Words.{refl, arith}
use Rattle.ring_core.proofs.Walks.{length-to_come, slice_get-to_come}
use Rattle.ring_core.proofs.iter.RingBufferIterator.nth.Goals as goal

pub returns-clause-value : goal.returns-clause-value
returns-clause-value g c =
    let s = c.args.self.now in
    let xs = g.RB.RingBuffer.contents s.ring.now in
    slice_get-to_come xs s.front s.back c.args.n _ _ refl (omega (arith, length-to_come xs s.front s.back)) c.get.ensures.value
