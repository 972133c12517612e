use Rattle.ringbuffer.proofs.Words.{filter_same}
use Rattle.ringbuffer.proofs.grow.GrowableAllocRingBuffer.retain.Goals as goal

-- Where calls of `keep` leave it as it is, the items that it keeps are a filter's.
pub returns-clause-value : goal.returns-clause-value
returns-clause-value g c =
    λ keeps says. rw (← c.self.view_is) (filter_same _ keeps c.args.keep (λ x y q called. let said = says x y q called in (said.1, said.0)) _ _ c.retain.ensures.filtered)
