-- The first slice is as long as the part that it is compared with.
use Rattle.ringbuffer.proofs.Words.{refl, sym}
use Rattle.ringbuffer.proofs.Paired.{pointwise-cut}
use Rattle.ringbuffer.proofs.two_slices.equal_to_slice.Goals as goal

pub returns-then-same_items : goal.returns-then-same_items
returns-then-same_items g c =
    let parts = pointwise-cut g.T.PartialEq.eq _ c.args.items.1.now _ _ _ _ c.split_at.ensures.front c.split_at.ensures.back (sym c.split_at.ensures.front_len) in
    rw (parts, sym c.same_items.ensures, c.if-same_items.true) c.same_items-then-same_items.ensures

pub returns-else-same_items : goal.returns-else-same_items
returns-else-same_items g c =
    let parts = pointwise-cut g.T.PartialEq.eq _ c.args.items.1.now _ _ _ _ c.split_at.ensures.front c.split_at.ensures.back (sym c.split_at.ensures.front_len) in
    rw (parts, sym c.same_items.ensures, c.if-same_items.false) refl
