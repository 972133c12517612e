use Rattle.ringbuffer.proofs.Conversions.{Some, YieldsList-unpacked, last_made}
use Rattle.ringbuffer.proofs.plain.convert.CopyRingBuffer+T+CAP.from_const.Goals as goal

pub returns : goal.returns
returns g c = last_made _ c.from_iter.ensures (λ it from. YieldsList-unpacked (λ r. r.items) (λ r. Some (g.S.RingSlots.limit r.capacity)) (λ r. r.changes) it _ from.0)
