use Rattle.ringbuffer.proofs.Words.{◌∙◌, arith, common_steps, sym}
use Rattle.ringbuffer.proofs.Paired.{set-popped}
use Rattle.ringbuffer.proofs.grow.GrowableAllocRingBuffer.dequeue_each.Goals as goal

-- The next item lands after those that were popped.
pub loop-k-preserved : goal.loop-k-preserved
loop-k-preserved g c =
    let first = sym c.loop-k.invariant.0 ∙ rw c.unwrap.ensures at c.pop_front.ensures.items in
    let landed = set-popped c.replace-deque.result.items c.args.output.now _ c.loop-k.k _ first (omega (arith, c.min-count.ensures, c.loop-k-test.true)) in
    (grind (arith, common_steps, c.pop_front.ensures.rest, c.loop-k.invariant.0), rw c.loop-k.invariant.1 landed)
