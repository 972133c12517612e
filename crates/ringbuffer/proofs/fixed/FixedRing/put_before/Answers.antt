use Rattle.ringbuffer.proofs.Words.{arith}
use Rattle.ringbuffer.proofs.LaysOut.{LaysOut-put_first, past_empty}
use Rattle.ringbuffer.proofs.fixed.FixedRing.put_before.Goals as goal

-- The slot before the first is empty.
pub put-requires : goal.put-requires
put-requires g c = past_empty _ _ c.requires.laid_out _ _ (omega (arith, c.requires.room)) (omega (arith, c.requires.room)) (rw c.size.ensures.value at c.place-place.ensures)

pub returns : goal.returns
returns g c = LaysOut-put_first _ _ c.requires.laid_out _ _ _ c.requires.room (rw c.size.ensures.value at c.place-place.ensures) c.put.ensures
