use Rattle.ringbuffer.proofs.LaysOut.{first_full, LaysOut-take}
use Rattle.ringbuffer.proofs.fixed.FixedRing.drop_from.Goals as goal

-- The start holds the first item.
pub discard-requires : goal.discard-requires
discard-requires g c = first_full _ _ c.requires.laid_out c.requires.some

pub returns-clause-after : goal.returns-clause-after
returns-clause-after g c = LaysOut-take _ _ c.requires.laid_out _ _ c.requires.some c.next-next.ensures c.discard.ensures
