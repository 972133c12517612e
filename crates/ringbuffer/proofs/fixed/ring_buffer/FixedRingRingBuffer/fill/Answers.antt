use Rattle.ringbuffer.proofs.PushedClones.{filled_with_item}
use Rattle.ringbuffer.proofs.fixed.ring_buffer.FixedRingRingBuffer.fill.Goals as goal

pub returns-clause-items_if_clones_equal : goal.returns-clause-items_if_clones_equal
returns-clause-items_if_clones_equal g c =
    filled_with_item g.T.Clone.is_clone g.T.Clone.is_infallible c.args.value _ c.args.self.now c.moved.new.ring c.moved.result (rw (c.moved.ensures.shows, c.moved.ensures.leaves) at c.moved.ensures.met)
