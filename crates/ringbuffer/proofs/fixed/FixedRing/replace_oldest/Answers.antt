use Rattle.ringbuffer.proofs.Words.{View, ap, arith, length}
use Rattle.ringbuffer.proofs.SlotsHold.{wrap}
use Rattle.ringbuffer.proofs.fixed.FixedRing.replace_oldest.Goals as goal

-- Behind the last slot the first one follows.
pub replace_contiguous-self-inside-requires-clause-contiguous : goal.replace_contiguous-self-inside-requires-clause-contiguous
replace_contiguous-self-inside-requires-clause-contiguous g c =
    let s = g.S.RingSlots.seen c.self.inside.slots in let size = length s.slots in let start = c.self.inside.span.start in let n = length c.args.items.now in
    let parts = c.split_at.ensures in let first = length c.split_at.result.0.now in let same = c.replace_contiguous-start.ensures.after.same_size in
    let next = c.replace_contiguous-start.ensures.start in let sound = c.self.invariant in let limit = ap (λ (v : View _). g.S.RingSlots.limit v.capacity) c.self.view_is in
    grind (arith, wrap start first size sound.laid_out.start_within, same, next, parts.front_len, parts.back_len, c.min.ensures, c.size.ensures.value, c.requires.within, sound.room, limit)
