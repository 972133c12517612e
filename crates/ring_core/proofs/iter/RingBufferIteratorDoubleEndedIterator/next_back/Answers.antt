use Rattle.ring_core.proofs.Words.{◌-◌, arith}
use Rattle.ring_core.proofs.Walks.{to_come-next_back}
use Rattle.ring_core.proofs.iter.RingBufferIteratorDoubleEndedIterator.next_back.Goals as goal

pub returns-clause-steps : goal.returns-clause-steps
returns-clause-steps g c =
    let s = c.args.self.now in
    to_come-next_back (g.RB.RingBuffer.contents s.ring.now) s.front s.back (c.min-end.result - 1) c.get.result (omega arith) (omega arith) c.get.ensures.value
