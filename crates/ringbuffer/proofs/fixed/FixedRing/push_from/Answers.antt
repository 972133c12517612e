use Rattle.ringbuffer.proofs.Words.{common_steps, ◌≡◌, ◌+◌, ◌-◌, ◌∙◌, [], ◌∷◌, arith, length, refl, slice_get-take, sym, view_from}
use Rattle.ringbuffer.proofs.RepeatedSteps.{after_extend-fits, after_push-full}
use Rattle.ringbuffer.proofs.fixed.FixedRing.push_from.Goals as goal

-- The first item of a full ring gives way.
pub returns-then-len-capacity : goal.returns-then-len-capacity
returns-then-len-capacity g c =
    let v = view_from (g.S.RingSlots.seen c.args.slots.now) c.args.span.start in let one : length v.items + 1 - c.args.capacity ≡ 1 = omega arith in
    let is = after_push-full c.args.capacity v c.args.item (sym c.requires.len ∙ c.if-len-capacity.true) c.requires.some in
    let value = sym c.put_over-start.ensures.value ∙ sym (slice_get-take 1 0 v.items (omega arith)) in
    record { after = rw (← is) at c.put_over-start.ensures.after; len = grind (arith, common_steps); value = rw one value }

-- The item goes after the last.
pub returns-else-len-capacity : goal.returns-else-len-capacity
returns-else-len-capacity g c =
    let v = view_from (g.S.RingSlots.seen c.args.slots.now) c.args.span.start in let none : length v.items + 1 - c.args.capacity ≡ 0 = omega arith in
    record { after = rw (after_extend-fits c.args.capacity v (c.args.item ∷ []) (omega arith)) at c.put_at.ensures; len = grind (arith, common_steps); value = rw none refl }
