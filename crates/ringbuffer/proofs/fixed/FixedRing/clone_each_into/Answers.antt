use Rattle.ringbuffer.proofs.Words.{[], ◌∷◌, ◌++◌, AllZip-push, arith, length-append, clone_out}
use Rattle.ringbuffer.proofs.Paired.{take_item}
use Rattle.ringbuffer.proofs.fixed.FixedRing.clone_each_into.Goals as goal

-- One more clone is in its place.
pub loop-k-preserved : goal.loop-k-preserved
loop-k-preserved g c =
    let (ys, clones, long, is) = c.loop-k.invariant in let y = c.in_ok-output.field-0 in
    let placed = clone_out c.args.output.now ys c.loop-k.k y long (omega arith) in
    (ys ++ y ∷ [], rw (take_item _ _ _ c.at.ensures) (AllZip-push _ _ _ _ _ clones c.in_ok-output.ensures.cases), omega (arith, length-append ys (y ∷ [])), rw is placed)
