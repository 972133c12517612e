use Rattle.ring_core.proofs.Words.{arith, AllZip-push}
use Rattle.ring_core.proofs.Reading.{take_read}
use Rattle.ring_core.proofs.ring.RingBuffer.to_vec.Goals as goal

pub loop-i-preserved : goal.loop-i-preserved
loop-i-preserved g c =
    rw (take_read (g.Self.RingBuffer.contents c.args.self.now) c.loop-i.i _ c.unwrap.result (omega arith) c.get.ensures.value c.unwrap.ensures, c.in_ok-push.ensures.items) (AllZip-push _ _ _ _ _ c.loop-i.invariant c.in_ok-clone.ensures.cases)
