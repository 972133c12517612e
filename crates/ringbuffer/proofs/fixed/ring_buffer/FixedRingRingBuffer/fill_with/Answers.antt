use Rattle.ringbuffer.proofs.Words.{◌∙◌, ap, sym, View}
use Rattle.ringbuffer.proofs.fixed.ring_buffer.FixedRingRingBuffer.fill_with.Goals as goal

-- What the ring holds is what the closure answered.
pub returns-clause-made : goal.returns-clause-made
returns-clause-made g c =
    let (xs, last, calls, long, is) = c.moved.ensures.met in (last, rw (ap (λ (v : View _). v.items) (sym c.moved.ensures.leaves ∙ is)) calls)
