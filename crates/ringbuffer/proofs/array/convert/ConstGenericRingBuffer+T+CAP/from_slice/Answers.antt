use Rattle.ringbuffer.proofs.Conversions.{refl, ◌++◌, Some, ap, ◌∙◌, YieldsList-from_slice, keep_last, View, ClonesMeet-drained, refuses_none}
use Rattle.ringbuffer.proofs.array.convert.ConstGenericRingBuffer+T+CAP.from_slice.Goals as goal

pub returns-clause-items : goal.returns-clause-items
returns-clause-items g c =
    let (ys, clones, kept) = ClonesMeet-drained c.in_ok-extend_cloned.ensures.items (YieldsList-from_slice _ c.iter.ensures.rest) in
    (ys, clones, kept ∙ ap (λ (r : View _). keep_last (Some _) (r.items ++ ys)) c.new-ring.ensures)

-- Only an item's clone is refused, and there is none.
pub returns-in_err-extend_cloned-clause-empty_succeeds : goal.returns-in_err-extend_cloned-clause-empty_succeeds
returns-in_err-extend_cloned-clause-empty_succeeds g c = λ none. absurd (refuses_none (c.in_err-extend_cloned.ensures.refused refl) (YieldsList-from_slice _ c.iter.ensures.rest) none)
