use Rattle.ringbuffer.proofs.Conversions.{Some, arith, rules, YieldsList-unpacked, all_made}
use Rattle.ringbuffer.proofs.heap.convert.AllocRingBuffer+T.from_const.Goals as goal

pub returns : goal.returns
returns g c = all_made c.holding.result _ c.holding.ensures (search rules) (omega arith) (λ it from. YieldsList-unpacked (λ r. r.items) (λ r. Some (g.S.RingSlots.limit r.capacity)) (λ r. r.changes) it _ from.0)
