-- what the items from the place on say is what all say
use Rattle.ringbuffer.proofs.Words.{◌≡◌, List, drop, HoldsStretch, list_any}
use Rattle.ringbuffer.proofs.fixed.FixedRing.stretch_holds.Given as goal

abbrev pub invariant-loop-k : goal.invariant-loop-k
invariant-loop-k g l = (ys : List _) → HoldsStretch (g.S.RingSlots.seen l.slots).slots l.from l.fn.len ys
    → list_any (λ y. g.T.PartialEq.eq y l.x) (drop l.k ys) ≡ list_any (λ y. g.T.PartialEq.eq y l.x) ys
