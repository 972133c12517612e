use Rattle.ringbuffer.proofs.Words.{◌+◌, ◌≤◌, ◌∙◌, Some, ap, arith, changed, length, length-take, refl, take, slice_get_read, filled-behind, length-filled}
use Rattle.ringbuffer.proofs.Copies.{with_items-next}
use Rattle.ringbuffer.proofs.fixed.copies.TakesCopies.put_copies.Goals as goal

-- The next slot is empty still.
pub put-requires : goal.put-requires
put-requires g c =
    let slots = (g.Self.RingSlots.seen c.args.self.now).slots in let k = c.loop-k.k in let xs = take k c.args.items.now in let (fit, empty) = c.requires in
    let short = length-take k c.args.items.now in let room : c.args.from + length xs ≤ length slots = omega (arith, short, fit) in
    rw c.loop-k.invariant (omega (arith, length-filled slots c.args.from xs room, fit, c.loop-k-test.true), filled-behind slots c.args.from xs room (c.args.from + k) (omega (arith, short)) ∙ empty k c.loop-k-test.true)

pub loop-k-preserved : goal.loop-k-preserved
loop-k-preserved g c =
    let items = c.args.items.now in let k = c.loop-k.k in let x = c.index-items-k.result in
    c.put.ensures ∙ ap (λ s. changed s (c.args.from + k) (Some x)) c.loop-k.invariant
    ∙ with_items-next (g.Self.RingSlots.seen c.args.self.now) c.args.from items c.requires.0 k x (slice_get_read items (length items) k x refl c.loop-k-test.true c.index-items-k.is)
