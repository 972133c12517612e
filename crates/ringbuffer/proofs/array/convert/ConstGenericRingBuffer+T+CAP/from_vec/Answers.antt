use Rattle.ringbuffer.proofs.Conversions.{rules, YieldsList-from_vec, last_made}
use Rattle.ringbuffer.proofs.array.convert.ConstGenericRingBuffer+T+CAP.from_vec.Goals as goal

pub returns : goal.returns
returns g c = last_made _ c.from_iter.ensures (λ it from. YieldsList-from_vec _ from.0 (search rules))
