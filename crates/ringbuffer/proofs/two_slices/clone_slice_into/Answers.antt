use Rattle.ringbuffer.proofs.Words.{[], ◌∷◌, ◌++◌, all_zip_more, arith, length-append, clone_out}
use Rattle.ringbuffer.proofs.two_slices.clone_slice_into.Goals as goal

-- One more clone is in its place.
pub loop-i-preserved : goal.loop-i-preserved
loop-i-preserved g c =
    let (ys, clones, long, is) = c.loop-i.invariant in
    let y = c.in_ok-output.field-0 in let placed = clone_out c.args.output.now ys c.loop-i.i y long (omega (arith, c.min-count.ensures, c.loop-i-test.true)) in
    let all = all_zip_more g.T.Clone.is_clone c.args.items.now ys c.loop-i.i _ y (omega arith) c.index-items-i.is clones c.in_ok-output.ensures.cases in
    (ys ++ y ∷ [], all, omega (arith, long, length-append ys (y ∷ [])), rw is placed)
