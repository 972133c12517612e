-- what the items from the place on say is what all say
use Rattle.ringbuffer.proofs.Words.{◌≡◌, List, drop, length, HoldsStretch, pointwise}
use Rattle.ringbuffer.proofs.fixed.FixedRing.stretch_equals.Given as goal

abbrev pub invariant-loop-k : goal.invariant-loop-k
invariant-loop-k g l = (xs : List _) → HoldsStretch (g.S.RingSlots.seen l.slots).slots l.from (length l.items) xs
    → pointwise g.T.PartialEq.eq (drop l.k xs) (drop l.k l.items) ≡ pointwise g.T.PartialEq.eq xs l.items
