use Rattle.ringbuffer.proofs.Words.{◌∙◌, ap, arith, refl, sym, length}
use Rattle.ringbuffer.proofs.LaysOut.{IsLaidOut-empty, items_from-empty}
use Rattle.ringbuffer.proofs.RepeatedSteps.{view_is}
use Rattle.ringbuffer.proofs.fixed.FixedRing.over.Goals as goal

-- No item lies in empty slots.
pub from_parts-requires : goal.from_parts-requires
from_parts-requires g c =
    let some = c.requires.some in let room = c.limit.ensures.within in let s = g.S.RingSlots.seen c.args.slots in let empty = c.requires.empty in
    let laid_out = IsLaidOut-empty s 0 empty (omega (arith, some, room)) in
    record { laid_out = laid_out; counted = sym (ap length (items_from-empty s 0 empty)); some = some; within = omega arith; room = room }

pub returns : goal.returns
returns g c = c.from_parts.ensures ∙ view_is (items_from-empty (g.S.RingSlots.seen c.args.slots) 0 c.requires.empty) refl refl
