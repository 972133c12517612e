use Rattle.ringbuffer.proofs.Words.{filter_same, CalledAt}
use Rattle.ringbuffer.proofs.fixed.ring_buffer.FixedRingRingBuffer.retain.Goals as goal

-- A test that tells what it returns picks what `filter` does.
pub returns-clause-value : goal.returns-clause-value
returns-clause-value g c =
    λ keeps same. filter_same (CalledAt g.F.FnMut) keeps c.args.keep (λ x b q answer. let is = same x b q answer in (is.1, is.0)) _ _ (rw (c.moved.ensures.shows, c.moved.ensures.leaves) at c.moved.ensures.met.filtered)
