use Rattle.ringbuffer.proofs.Words.{◌∷◌, ◌∙◌, ap, arith, after_push_front, after_put_first, slice_get_past, sym, view_from}
use Rattle.ringbuffer.proofs.LaysOut.{LaysOut-then}
use Rattle.ringbuffer.proofs.RepeatedSteps.{after_push_front-full}
use Rattle.ringbuffer.proofs.fixed.FixedRing.push_front.Goals as goal

-- The last item gives way to the new one.
pub returns-then-before-limit-clause-after : goal.returns-then-before-limit-clause-after
returns-then-before-limit-clause-after g c =
    let limit = g.S.RingSlots.limit in let v = view_from (g.S.RingSlots.seen c.self.inside.slots) c.self.inside.span.start in let sound = c.self.invariant in
    let is = after_push_front-full (limit v.capacity) v c.args.item (sym sound.counted ∙ c.if-before-limit.true ∙ c.limit.ensures.value) sound.some in
    (LaysOut-then (λ w. after_put_first w c.args.item) c.take_last-old.ensures.after c.put_before-self-inside.ensures).shows ∙ is ∙ ap (λ w. after_push_front (limit w.capacity) w c.args.item) c.self.view_is

pub returns-clause-value : goal.returns-clause-value
returns-clause-value g c =
    let limit = g.S.RingSlots.limit in let v = view_from (g.S.RingSlots.seen c.self.inside.slots) c.self.inside.span.start in let sound = c.self.invariant in
    rw (sym c.self.view_is) (sym (slice_get_past (c.args.item ∷ v.items) (limit v.capacity) (omega (arith, sound.within, sound.counted, c.limit.ensures.value, c.if-before-limit.false))))
