-- The items so far and those to come are all that the ring holds.
use Rattle.std.proofs.Common.{◌≡◌, ◌++◌, codes, flat_map}
use Rattle.ringbuffer.specs.Walk.{iterator_to_come}
use Rattle.ringrun_service.specs.Replies.{item_text}
use Rattle.ringrun_service.proofs.replies.push_items.Given as goal

abbrev pub invariant-loop-item : goal.invariant-loop-item
invariant-loop-item g l =
    l.text.items ++ flat_map item_text (iterator_to_come g.R.RingBuffer.contents l.item-iterator)
    ≡ l.fn.text.items ++ (codes "items" ++ flat_map item_text (g.R.RingBuffer.contents l.ring))
