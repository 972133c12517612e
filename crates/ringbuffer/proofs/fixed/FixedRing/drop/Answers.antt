use Rattle.ringbuffer.proofs.Words.{ap, View}
use Rattle.ringbuffer.proofs.LaysOut.{all_empty}
use Rattle.ringbuffer.proofs.fixed.FixedRing.drop.Goals as goal

-- A ring that was cleared shows no item.
pub free-requires : goal.free-requires
free-requires g c =
    let cleared = c.empty_slots.ensures in all_empty _ _ cleared.laid_out (ap (λ (v : View _). v.items) cleared.shows)
