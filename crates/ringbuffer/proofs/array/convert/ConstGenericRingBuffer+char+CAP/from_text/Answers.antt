use Rattle.ringbuffer.proofs.Conversions.{ap, ◌∙◌, chars_rest, YieldsList-from_chars, last_made}
use Rattle.ringbuffer.proofs.array.convert.ConstGenericRingBuffer+char+CAP.from_text.Goals as goal

pub returns : goal.returns
returns g c = last_made _ c.from_iter.ensures (λ it from. YieldsList-from_chars _ c.utf8.text (ap chars_rest from ∙ c.chars.ensures.rest))
