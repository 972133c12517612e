use Rattle.ringbuffer.proofs.Words.{length-set}
use Rattle.ringbuffer.proofs.Gap.{moves}
use Rattle.ringbuffer.proofs.fixed.FixedRing.move_item.Goals as goal

-- Both slots hold what they should, and every other is as it was.
pub returns : goal.returns
returns g c = let r = c.requires in let took = c.take-item.ensures in
    moves _ _ _ _ _ _ r.start r.from r.to r.full r.empty c.place_branchless-had.ensures (rw (took.after, length-set) at c.place_branchless-gets.ensures) _ took.after _ _ took.value c.put.ensures
