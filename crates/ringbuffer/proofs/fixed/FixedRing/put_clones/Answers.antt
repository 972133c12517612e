use Rattle.ringbuffer.proofs.Words.{[], ◌∷◌, ◌++◌, arith, length-append, all_zip_more, after_put}
use Rattle.ringbuffer.proofs.LaysOut.{LaysOut-then}
use Rattle.ringbuffer.proofs.RepeatedSteps.{after_puts-then}
use Rattle.ringbuffer.proofs.fixed.FixedRing.put_clones.Goals as goal

-- One more clone is put.
pub loop-i-preserved : goal.loop-i-preserved
loop-i-preserved g c =
    let (ys, all, long, lays_out) = c.loop-i.invariant in
    let items = c.args.items.now in let i = c.loop-i.i in let x = c.index-items-i.result in let y = c.in-Ok.item in
    let more = LaysOut-then (λ v. after_put v y) lays_out c.put_next.ensures in
    let clones = all_zip_more g.T.Clone.is_clone items ys i x y (omega arith) c.index-items-i.is all c.in-Ok.ensures.cases in
    (ys ++ y ∷ [], clones, omega (arith, length-append ys (y ∷ [])), rw (after_puts-then ys (y ∷ [])) at more)
