use Rattle.ringbuffer.proofs.Conversions.{ap, refl, ◌∙◌, chars_rest, YieldsList-from_chars, IfOk-weaker, all_made, length-chars_le}
use Rattle.ringbuffer.proofs.heap.convert.AllocRingBuffer+char.from_text.Goals as goal

pub returns-clause-items : goal.returns-clause-items
returns-clause-items c = IfOk-weaker c.holding.result _ _ (λ ring holds. holds.0) (all_made c.holding.result _ c.holding.ensures refl (length-chars_le _ c.utf8.text) (λ it from. YieldsList-from_chars _ c.utf8.text (ap chars_rest from ∙ c.chars.ensures.rest)))
