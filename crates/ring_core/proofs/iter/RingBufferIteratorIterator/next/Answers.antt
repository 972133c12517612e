use Rattle.ring_core.proofs.Words.{arith}
use Rattle.ring_core.proofs.Walks.{to_come-next}
use Rattle.ring_core.proofs.iter.RingBufferIteratorIterator.next.Goals as goal

pub returns-clause-steps : goal.returns-clause-steps
returns-clause-steps g c =
    let s = c.args.self.now in
    to_come-next (g.RB.RingBuffer.contents s.ring.now) s.front s.back c.get.result (omega arith) c.get.ensures.value
