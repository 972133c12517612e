use Rattle.ringbuffer.proofs.Words.{[], ◌∷◌, ◌++◌, arith, length-append, after_put, All-push}
use Rattle.ringbuffer.proofs.LaysOut.{LaysOut-then}
use Rattle.ringbuffer.proofs.RepeatedSteps.{after_puts-then}
use Rattle.ringbuffer.proofs.fixed.FixedRing.put_clones_of.Goals as goal

-- One more clone is put.
pub loop-len-preserved : goal.loop-len-preserved
loop-len-preserved g c =
    let (xs, clones, long, lays_out) = c.loop-len.invariant.put in let x = c.in-Ok.item in
    let more = LaysOut-then (λ v. after_put v x) lays_out c.put_next.ensures in
    let all = All-push (g.T.Clone.is_clone c.args.value) xs x clones c.in-Ok.ensures.cases in
    record { put = (xs ++ x ∷ [], all, omega (arith, length-append xs (x ∷ [])), rw (after_puts-then xs (x ∷ [])) at more) }
