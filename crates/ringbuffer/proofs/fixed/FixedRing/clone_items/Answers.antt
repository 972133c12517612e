use Rattle.ringbuffer.proofs.Words.{AllZip-push}
use Rattle.ringbuffer.proofs.Paired.{take_item}
use Rattle.ringbuffer.proofs.fixed.FixedRing.clone_items.Goals as goal

-- One more item is cloned.
pub loop-i-preserved : goal.loop-i-preserved
loop-i-preserved g c = rw (take_item _ _ _ c.at.ensures, c.in_ok-push.ensures.items) (AllZip-push _ _ _ _ _ c.loop-i.invariant c.in_ok-clone.ensures.cases)
