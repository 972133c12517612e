use Rattle.ringbuffer.proofs.Conversions.{arith, rules, YieldsList-from_rest, all_made}
use Rattle.ringbuffer.proofs.heap.convert.AllocRingBuffer+T.from_linked_list.Goals as goal

pub returns : goal.returns
returns g c = all_made c.holding.result _ c.holding.ensures (search rules) (omega arith) (λ it from. YieldsList-from_rest _ from.0)
