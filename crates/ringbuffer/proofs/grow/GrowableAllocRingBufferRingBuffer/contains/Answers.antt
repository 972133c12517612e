use Rattle.ringbuffer.proofs.Words.{◌∙◌, ap, list_any}
use Rattle.ring_core.proofs.Answered.{IsAnyAnswer-list_any}
use Rattle.ringbuffer.proofs.grow.GrowableAllocRingBufferRingBuffer.contains.Goals as goal

pub returns-clause-cases : goal.returns-clause-cases
returns-clause-cases g c =
    IsAnyAnswer-list_any (λ y. g.T.PartialEq.eq y c.args.x.now) c.args.self.now _
    (c.is_in_slices.ensures ∙ ap (list_any (λ y. g.T.PartialEq.eq y c.args.x.now)) (c.as_slices.ensures.items ∙ c.self.view_is))
