-- the items passed are put
use Rattle.ringbuffer.proofs.Words.{◌≡◌, take, with_items}
use Rattle.ringbuffer.proofs.fixed.copies.TakesCopies.put_copies.Given as goal

abbrev pub invariant-loop-k : goal.invariant-loop-k
invariant-loop-k g l = g.Self.RingSlots.seen l.self ≡ with_items (g.Self.RingSlots.seen l.initial.self) l.from (take l.k l.items)
