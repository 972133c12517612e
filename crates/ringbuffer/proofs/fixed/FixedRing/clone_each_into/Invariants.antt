-- So far the items before the index have their clones in their places.
use Rattle.ringbuffer.proofs.Words.{◌≡◌, ◌++◌, List, drop, length, take, AllZip}
use Rattle.ringbuffer.proofs.fixed.FixedRing.clone_each_into.Given as goal

abbrev pub invariant-loop-k : goal.invariant-loop-k
invariant-loop-k g l = (ys : List _) × AllZip g.T.Clone.is_clone (take l.k l.self.items) ys × (length ys ≡ l.k) × (l.output ≡ ys ++ drop l.k l.fn.output)
