-- So far the items before the index have their clones in their places.
use Rattle.ring_core.proofs.Words.{◌≡◌, ◌++◌, List, drop, length, take, AllZip}
use Rattle.ring_core.proofs.ring.RingBuffer.copy_to_slice.Given as goal

abbrev pub invariant-loop-i : goal.invariant-loop-i
invariant-loop-i g l =
    (ys : List _) × AllZip g.T.Clone.is_clone (take l.i (g.Self.RingBuffer.contents l.self)) ys × (length ys ≡ l.i)
    × (l.output ≡ ys ++ drop l.i l.fn.output)
