use Rattle.ringbuffer.proofs.Words.{arith, common_steps}
use Rattle.ringbuffer.proofs.fixed.ring_buffer.FixedRingRingBuffer.push.Goals as goal

pub invariant_of-self : goal.invariant_of-self
invariant_of-self g c = grind (arith, common_steps)

pub returns-clause-pushed : goal.returns-clause-pushed
returns-clause-pushed g c = grind (arith, common_steps)
