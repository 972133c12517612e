use Rattle.ringbuffer.proofs.Words.{◌≡◌, true, [], ◌∷◌, ◌++◌, refl, arith}
use Rattle.ringbuffer.proofs.Sources.{Gives-none, Gives-one, Gives-then}
use Rattle.ringbuffer.proofs.PushedStretch.{none_yet, one_more, stays_contiguous}
use Rattle.ringbuffer.proofs.fixed.FixedRing.push_stretch.Goals as goal

pub loop-i-init : goal.loop-i-init
loop-i-init g c = ([], Gives-none g.I.Iterator c.args.items.now c.requires.can_next c.requires.ends, none_yet c.requires.can_push _)

pub push_at-requires-clause-place : goal.push_at-requires-clause-place
push_at-requires-clause-place g c =
    let so_far = c.loop-i.invariant.2.pushed.0 in
    rw (c.after_pushes-now-in-loop-i.ensures, so_far.same_size) (stays_contiguous _ c.args.span _ _ _ c.place_after-end.ensures (omega arith))

-- One more item is pushed.
pub loop-i-preserved : goal.loop-i-preserved
loop-i-preserved g c =
    let (xs, given, so_far) = c.loop-i.invariant in let x = c.in-Some.item in
    let on = Gives-then g.I.Iterator true _ _ _ xs (x ∷ []) given (Gives-one g.I.Iterator _ _ x c.in-Some.ensures.steps c.in-Some.ensures.goes c.loop-i.iterator.1) in
    let at = rw so_far.pushed.0.same_size at c.after_pushes-now-in-loop-i.ensures in
    (xs ++ x ∷ [], on, one_more c.requires.can_push x _ refl c.pushes_to_end-count.ensures.room c.loop-i-test.true so_far (rw at at c.push_at.ensures))

pub returns : goal.returns
returns g c =
    let (xs, given, so_far) = c.loop-i.invariant in let done : c.pushes_to_end-count.result ≡ c.loop-i.i = omega arith in
    (xs, given, rw (c.after_pushes-now-2.ensures, done, so_far.pushed.0.same_size) so_far.pushed)
