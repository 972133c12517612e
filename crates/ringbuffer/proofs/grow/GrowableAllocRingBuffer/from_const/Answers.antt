use Rattle.ringbuffer.proofs.Conversions.{Some, YieldsList-unpacked, list_made}
use Rattle.ringbuffer.proofs.grow.GrowableAllocRingBuffer.from_const.Goals as goal

pub returns : goal.returns
returns g c = list_made c.from_iter.result c.from_iter.ensures.items (λ it from. YieldsList-unpacked (λ r. r.items) (λ r. Some (g.S.RingSlots.limit r.capacity)) (λ r. r.changes) it _ from.0)
