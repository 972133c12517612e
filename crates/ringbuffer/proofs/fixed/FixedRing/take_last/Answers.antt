use Rattle.ringbuffer.proofs.Words.{arith}
use Rattle.ringbuffer.proofs.LaysOut.{LaysOut-pop}
use Rattle.ringbuffer.proofs.fixed.FixedRing.take_last.Goals as goal

-- The slot of the last item is emptied, and the items before it stay.
pub returns-clause-after : goal.returns-clause-after
returns-clause-after g c =
    LaysOut-pop _ _ c.requires.span.laid_out _ _ _ (omega (arith, c.requires.span.len, c.requires.some)) c.place-last.ensures c.take.ensures.after
