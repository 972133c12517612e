-- So far the items passed are the newest, in the place of as many oldest.
use Rattle.ringbuffer.proofs.Words.{LaysOut, after_puts, after_takes, length, take, view_from, ◌%◌, ◌+◌}
use Rattle.ringbuffer.proofs.fixed.FixedRing.replace_contiguous.Given as goal

abbrev pub invariant-loop-k : goal.invariant-loop-k
invariant-loop-k g l =
    let s = g.S.RingSlots.seen l.initial.slots in
    LaysOut s (g.S.RingSlots.seen l.slots) ((l.span.start + l.k) % length s.slots) (after_puts (take l.k l.items) (after_takes l.k (view_from s l.span.start)))
