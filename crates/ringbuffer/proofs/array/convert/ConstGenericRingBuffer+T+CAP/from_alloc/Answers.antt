use Rattle.ringbuffer.proofs.Conversions.{Some, YieldsList-unpacked, last_made}
use Rattle.ringbuffer.proofs.array.convert.ConstGenericRingBuffer+T+CAP.from_alloc.Goals as goal

pub returns : goal.returns
returns g c = last_made _ c.from_iter.ensures (λ it from. YieldsList-unpacked (λ r. r.items) (λ r. Some r.capacity) (λ r. r.changes) it _ from.0)
