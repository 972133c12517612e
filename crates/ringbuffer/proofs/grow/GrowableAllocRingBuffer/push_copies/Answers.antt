use Rattle.ringbuffer.proofs.Words.{arith, common_steps}
use Rattle.ringbuffer.proofs.grow.GrowableAllocRingBuffer.push_copies.Goals as goal

pub loop-i-preserved : goal.loop-i-preserved
loop-i-preserved g c = grind (arith, common_steps)
