use Rattle.ringbuffer.proofs.Conversions.{ap, ◌∙◌, chars_rest, YieldsList-from_chars, list_made}
use Rattle.ringbuffer.proofs.grow.convert.GrowableAllocRingBuffer+char.from_text.Goals as goal

pub returns : goal.returns
returns c = list_made c.from_iter.result c.from_iter.ensures.items (λ it from. YieldsList-from_chars _ c.utf8.text (ap chars_rest from ∙ c.chars.ensures.rest))
