use Rattle.ringbuffer.proofs.Conversions.{YieldsList-from_rest, last_made}
use Rattle.ringbuffer.proofs.plain.convert.CopyRingBuffer+T+CAP.from_linked_list.Goals as goal

pub returns : goal.returns
returns g c = last_made _ c.from_iter.ensures (λ it from. YieldsList-from_rest _ from.0)
