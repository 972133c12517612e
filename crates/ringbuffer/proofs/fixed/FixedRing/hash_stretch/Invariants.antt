-- the items of the slots passed were fed
use Rattle.ringbuffer.proofs.Words.{◌≡◌, List, take, HoldsStretch, flat_map, fold}
use Rattle.ringbuffer.proofs.fixed.FixedRing.hash_stretch.Given as goal

abbrev pub invariant-loop-k : goal.invariant-loop-k
invariant-loop-k g l = (xs : List _) → HoldsStretch (g.S.RingSlots.seen l.slots).slots l.from l.fn.len xs
    → l.state ≡ fold g.H.Hasher.write l.initial.state (flat_map g.T.Hash.hash_input (take l.k xs))
