use Rattle.ringbuffer.proofs.Words.{◌∙◌, ap, slice_get, sym}
use Rattle.ringbuffer.proofs.fixed.ring_buffer.FixedRingRingBuffer.get.Goals as goal

pub returns-clause-value : goal.returns-clause-value
returns-clause-value g c = sym c.at.ensures ∙ ap (slice_get c.args.self.now.items) (rw c.len.ensures.value at c.in_ok-index.ensures.value.1)

pub returns-clause-in_range : goal.returns-clause-in_range
returns-clause-in_range g c = λ low. sym c.at.ensures ∙ ap (slice_get c.args.self.now.items) (c.in_ok-index.ensures.value.1 ∙ (c.in_ok-index.ensures.in_range (rw c.len.ensures.value low)).1)
