use Rattle.ring_core.proofs.Words.{take, AllZip}
use Rattle.ring_core.proofs.ring.RingBuffer.to_vec.Given as goal

-- the vector has clones of the items before the index
abbrev pub invariant-loop-i : goal.invariant-loop-i
invariant-loop-i g l = AllZip g.T.Clone.is_clone (take l.i (g.Self.RingBuffer.contents l.self)) l.items.items
