-- the items of the slots passed are copied
use Rattle.ringbuffer.proofs.Words.{◌≡◌, ◌++◌, List, drop, length, take, HoldsStretch}
use Rattle.ringbuffer.proofs.fixed.FixedRing.copy_stretch.Given as goal

abbrev pub invariant-loop-k : goal.invariant-loop-k
invariant-loop-k g l = (xs : List _) → HoldsStretch (g.S.RingSlots.seen l.slots).slots l.from (length l.initial.output) xs → l.output ≡ take l.k xs ++ drop l.k l.initial.output
