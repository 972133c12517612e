use Rattle.ring_core.proofs.Walks.{reads_in_order, reads_in_reverse}
use Rattle.ring_core.proofs.iter.RingBufferIterator.range.Goals as goal

pub returns-clause-runs : goal.returns-clause-runs
returns-clause-runs g c = reads_in_order g.RB.RingBuffer.contents

pub returns-clause-runs_back : goal.returns-clause-runs_back
returns-clause-runs_back g c = reads_in_reverse g.RB.RingBuffer.contents
