use Rattle.ringbuffer.proofs.Words.{take, AllZip}
use Rattle.ringbuffer.proofs.fixed.FixedRing.clone_items.Given as goal

-- the vector has clones of the items before the index
abbrev pub invariant-loop-i : goal.invariant-loop-i
invariant-loop-i g l = AllZip g.T.Clone.is_clone (take l.i l.fn.self.items) l.clones.items
