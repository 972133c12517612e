use Rattle.ringbuffer.proofs.Words.{[], ◌∷◌, ◌++◌, AllZip-push, arith, length-append, after_put}
use Rattle.ringbuffer.proofs.LaysOut.{LaysOut-then}
use Rattle.ringbuffer.proofs.Paired.{take_item}
use Rattle.ringbuffer.proofs.RepeatedSteps.{after_puts-then}
use Rattle.ringbuffer.proofs.fixed.FixedRing.clone_into_slots.Goals as goal

-- One more clone is put.
pub loop-len-preserved : goal.loop-len-preserved
loop-len-preserved g c =
    let (ys, all, long, lays_out) = c.loop-len.invariant.put in let y = c.in-Ok.item in
    let more = LaysOut-then (λ v. after_put v y) lays_out c.put_next.ensures in
    let longer = length-append ys (y ∷ []) in
    record { put = (ys ++ y ∷ [], rw (take_item _ _ _ c.at.ensures) (AllZip-push _ _ _ _ _ all c.in-Ok.ensures.cases), omega arith, rw (after_puts-then ys (y ∷ [])) at more) }
