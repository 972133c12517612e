use Rattle.ringbuffer.proofs.Words.{View, after_pop, after_put_first, ap, arith, view_from}
use Rattle.ringbuffer.proofs.LaysOut.{LaysOut-then}
use Rattle.ringbuffer.proofs.RepeatedSteps.{after_lasts_to_front-more}
use Rattle.ringbuffer.proofs.fixed.FixedRing.lasts_to_front.Goals as goal

-- One more item goes from the back to the front.
pub loop-preserved : goal.loop-preserved
loop-preserved g c =
    let so_far = c.loop.invariant in let took = c.take_last-item.ensures in let x = c.take_last-item.result in
    let v = view_from (g.S.RingSlots.seen c.args.slots.now) c.args.span.start in
    let is = rw (ap (λ (w : View _). w.items) so_far.lays_out.shows, c.requires.span.len) at took.value in
    let more = after_lasts_to_front-more c.loop.counter v x (omega (arith, c.loop-test.true, c.requires.some, c.requires.span.len)) is in
    let moved = LaysOut-then (λ w. after_put_first w x) (LaysOut-then after_pop so_far.lays_out took.after) c.put_before-start.ensures in
    record { lays_out = rw more at moved }
