use Rattle.ringbuffer.proofs.Words.{◌≡◌, [], ◌∷◌, ◌++◌, refl, arith, all_zip_more}
use Rattle.ringbuffer.proofs.PushedStretch.{none_yet, one_more, stays_contiguous}
use Rattle.ringbuffer.proofs.fixed.FixedRing.push_clone_stretch.Goals as goal

pub loop-i-init : goal.loop-i-init
loop-i-init g c = ([], tt, none_yet c.requires _)

pub push_at-requires-clause-place : goal.push_at-requires-clause-place
push_at-requires-clause-place g c =
    let so_far = c.loop-i.invariant.2.pushed.0 in
    rw (c.after_pushes-now.ensures, so_far.same_size) (stays_contiguous _ c.args.span _ _ _ c.place_after-end.ensures (omega arith))

-- One more clone is pushed.
pub loop-i-preserved : goal.loop-i-preserved
loop-i-preserved g c =
    let (ys, clones, so_far) = c.loop-i.invariant in let y = c.in-Ok.clone in
    let at = rw so_far.pushed.0.same_size at c.after_pushes-now.ensures in
    let all = all_zip_more g.T.Clone.is_clone c.args.items.now ys c.loop-i.i c.index-items-i.result y (omega arith) c.index-items-i.is clones c.in-Ok.ensures.cases in
    (ys ++ y ∷ [], all, one_more c.requires y _ refl c.pushes_to_end-free.ensures.room (omega arith) so_far (rw at at c.push_at.ensures))

pub returns-clause-pushed : goal.returns-clause-pushed
returns-clause-pushed g c =
    let (ys, clones, so_far) = c.loop-i.invariant in let done : c.min-count.result ≡ c.loop-i.i = omega arith in
    (ys, omega arith, rw so_far.long clones, tt, rw (c.after_pushes.ensures, done, so_far.pushed.0.same_size) so_far.pushed)
