-- So far the items before the index have their clones in their places.
use Rattle.ringbuffer.proofs.Words.{◌≡◌, ◌++◌, List, drop, length, take, AllZip}
use Rattle.ringbuffer.proofs.two_slices.clone_slice_into.Given as goal

abbrev pub invariant-loop-i : goal.invariant-loop-i
invariant-loop-i g l = (ys : List _) × AllZip g.T.Clone.is_clone (take l.i l.items) ys × (length ys ≡ l.i) × (l.output ≡ ys ++ drop l.i l.fn.output)
