use Rattle.ringbuffer.proofs.Conversions.{YieldsList-from_rest, list_made}
use Rattle.ringbuffer.proofs.grow.GrowableAllocRingBuffer.from_linked_list.Goals as goal

pub returns : goal.returns
returns g c = list_made c.from_iter.result c.from_iter.ensures.items (λ it from. YieldsList-from_rest _ from.0)
