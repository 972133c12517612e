use Rattle.ringbuffer.proofs.Words.{View, ap, items_from, sym}
use Rattle.ringbuffer.proofs.RepeatedSteps.{last_behind}
use Rattle.ringbuffer.proofs.fixed.FixedRing.pop_back.Goals as goal

-- The last item and those before it are all.
pub returns-clause-items : goal.returns-clause-items
returns-clause-items g c =
    let last = rw c.self.invariant.counted at c.take_last.ensures.value in let rest = ap (λ (v : View _). v.items) c.take_last.ensures.after.shows in
    rw (← c.self.view_is, rest) (sym (rw last at (last_behind (items_from (g.S.RingSlots.seen c.self.inside.slots).slots c.self.inside.span.start))))
