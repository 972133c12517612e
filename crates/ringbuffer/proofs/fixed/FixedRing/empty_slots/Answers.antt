use Rattle.ringbuffer.proofs.Words.{refl, view_from}
use Rattle.ringbuffer.proofs.LaysOut.{restart}
use Rattle.ringbuffer.proofs.RepeatedSteps.{after_takes-all}
use Rattle.ringbuffer.proofs.fixed.FixedRing.empty_slots.Goals as goal

-- No item is left, so the ring may begin at the first slot.
pub returns : goal.returns
returns g c =
    let all = after_takes-all c.args.span.len (view_from (g.S.RingSlots.seen c.args.slots.now) c.args.span.start) c.requires.span.len in
    restart _ _ _ _ (rw all at (c.drop_items.ensures.first refl)) refl
