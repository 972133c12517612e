use Rattle.ringbuffer.proofs.Words.{arith}
use Rattle.ringbuffer.proofs.Paired.{set-copied}
use Rattle.ringbuffer.proofs.fixed.FixedRing.copy_each.Goals as goal

-- The next item lands after those that were copied.
pub loop-k-preserved : goal.loop-k-preserved
loop-k-preserved g c =
    rw c.loop-k.invariant (set-copied c.args.self.now.items c.args.output.now c.loop-k.k c.at.result.now c.at.ensures (omega (arith, c.min-count.ensures, c.loop-k-test.true)))
