use Rattle.ringbuffer.proofs.LaysOut.{LaysOut-over}
use Rattle.ringbuffer.proofs.fixed.FixedRing.put_over.Goals as goal

-- Once the first item is taken, the place after the last is empty.
pub put-requires : goal.put-requires
put-requires g c = let took = c.take_from-next.ensures in (LaysOut-over c.requires.span.laid_out c.requires.span.len c.requires.some c.place_after-place.ensures took.next took.after).0

pub returns-clause-after : goal.returns-clause-after
returns-clause-after g c = let took = c.take_from-next.ensures in (LaysOut-over c.requires.span.laid_out c.requires.span.len c.requires.some c.place_after-place.ensures took.next took.after).1 _ _ c.put.ensures
