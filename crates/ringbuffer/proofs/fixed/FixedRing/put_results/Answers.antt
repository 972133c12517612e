use Rattle.ringbuffer.proofs.Words.{[], ◌∷◌, ◌++◌, arith, of_calls, length-append, after_put, FoldsTo-push}
use Rattle.ringbuffer.proofs.RepeatedSteps.{after_puts-then}
use Rattle.ringbuffer.proofs.LaysOut.{LaysOut-then}
use Rattle.ringbuffer.proofs.fixed.FixedRing.put_results.Goals as goal

-- One more answer is put.
pub loop-len-preserved : goal.loop-len-preserved
loop-len-preserved g c =
    let (xs, calls, long, lays_out) = c.loop-len.invariant.put in let x = c.make.result in
    let more = LaysOut-then (λ v. after_put v x) lays_out c.put_next.ensures in
    let longer = length-append xs (x ∷ []) in
    record { callable = search of_calls; put = (xs ++ x ∷ [], FoldsTo-push _ _ xs _ x _ calls c.make.ensures, omega arith, rw (after_puts-then xs (x ∷ [])) at more) }
