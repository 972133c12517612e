use Rattle.ringbuffer.proofs.Words.{◌∙◌, View, after_put, after_take, ap, arith, slice_get, sym, view_from}
use Rattle.ringbuffer.proofs.LaysOut.{LaysOut-then, same_place}
use Rattle.ringbuffer.proofs.RepeatedSteps.{after_firsts_to_back-more}
use Rattle.ringbuffer.proofs.fixed.FixedRing.firsts_to_back.Goals as goal

-- The place after the last is the same once the first was taken.
pub put_at-requires-clause-place : goal.put_at-requires-clause-place
put_at-requires-clause-place g c =
    let lies = c.loop.invariant.lays_out in let took = c.take_from-next.ensures in
    rw (took.after.same_size, took.next)
    (c.place_after-end.ensures ∙ same_place _ _ lies.laid_out c.args.span.len (omega (arith, c.loop-test.true, c.requires.some)) (omega (arith, c.requires.span.len, c.requires.span.laid_out.fit, lies.same_size)))

-- One more item goes from the front to the back.
pub loop-preserved : goal.loop-preserved
loop-preserved g c =
    let so_far = c.loop.invariant in let took = c.take_from-next.ensures in let x = c.take_from-next.result.1 in
    let v = view_from (g.S.RingSlots.seen c.args.slots.now) c.args.span.start in let first = sym (ap (λ (w : View _). slice_get w.items 0) so_far.lays_out.shows) ∙ took.value in
    let moved = LaysOut-then (λ w. after_put w x) (LaysOut-then after_take so_far.lays_out took.after) c.put_at.ensures in
    record { lays_out = rw (after_firsts_to_back-more c.loop.counter v x (omega (arith, c.loop-test.true, c.requires.some, c.requires.span.len)) first) at moved }
