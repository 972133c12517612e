use Rattle.ringbuffer.proofs.Conversions.{ok_or_not}
use Rattle.ringbuffer.proofs.array.ConstGenericRingBufferClone.clone.Goals as goal

pub returns : goal.returns
returns g c = record { cases = ok_or_not _ c.clone.result c.clone.ensures.items c.clone.ensures.succeeds }
