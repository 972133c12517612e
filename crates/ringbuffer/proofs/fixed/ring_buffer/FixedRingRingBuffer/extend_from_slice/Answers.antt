use Rattle.ringbuffer.proofs.PushedClones.{as_items, few_changes}
use Rattle.ringbuffer.proofs.fixed.ring_buffer.FixedRingRingBuffer.extend_from_slice.Goals as goal

pub returns-clause-items_if_clones_equal : goal.returns-clause-items_if_clones_equal
returns-clause-items_if_clones_equal g c =
    as_items g.T.Clone.is_clone _ c.args.items.now c.args.self.now c.moved.new.ring _ c.moved.result (rw (c.moved.ensures.shows, c.moved.ensures.leaves) at c.moved.ensures.met)

pub returns-clause-changes : goal.returns-clause-changes
returns-clause-changes g c =
    λ some. few_changes g.T.Clone.is_clone _ c.args.items.now c.args.self.now c.moved.new.ring _ c.moved.result (rw (c.moved.ensures.shows, c.moved.ensures.leaves) at c.moved.ensures.met)
