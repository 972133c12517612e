use Rattle.std.proofs.Common.{length-append}
use Rattle.ring_core.proofs.Cloned.{equal_clones_out}
use Rattle.ringbuffer.proofs.fixed.ring_buffer.FixedRingRingBuffer.copy_to_slice.Goals as goal

pub returns-in-Some-clause-clones : goal.returns-in-Some-clause-clones
returns-in-Some-clause-clones g c = rw c.in-Some.ensures.items at c.clone_slices_into.ensures.clones

pub returns-in-Some-clause-items_if_clones_equal : goal.returns-in-Some-clause-items_if_clones_equal
returns-in-Some-clause-items_if_clones_equal g c =
    equal_clones_out g.T.Clone.is_clone _ _ _ _ (rw c.in-Some.ensures.items at c.clone_slices_into.ensures.clones)

pub returns-in-Some-clause-count : goal.returns-in-Some-clause-count
returns-in-Some-clause-count g c =
    rw (← length-append c.in-Some.rows.0.now c.in-Some.rows.1.now, c.in-Some.ensures.items) at c.clone_slices_into.ensures.count

pub returns-in-Some-clause-succeeds : goal.returns-in-Some-clause-succeeds
returns-in-Some-clause-succeeds g c = c.clone_slices_into.ensures.succeeds

pub returns-in-None-clause-clones : goal.returns-in-None-clause-clones
returns-in-None-clause-clones g c = c.clone_each_into.ensures.clones

pub returns-in-None-clause-items_if_clones_equal : goal.returns-in-None-clause-items_if_clones_equal
returns-in-None-clause-items_if_clones_equal g c = equal_clones_out g.T.Clone.is_clone _ _ _ _ c.clone_each_into.ensures.clones

pub returns-in-None-clause-count : goal.returns-in-None-clause-count
returns-in-None-clause-count g c = c.clone_each_into.ensures.count

pub returns-in-None-clause-succeeds : goal.returns-in-None-clause-succeeds
returns-in-None-clause-succeeds g c = c.clone_each_into.ensures.succeeds
