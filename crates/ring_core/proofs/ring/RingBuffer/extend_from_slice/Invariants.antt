-- So far the items that were passed have their clones, which are pushed.
use Rattle.ring_core.proofs.Words.{◌≡◌, ◌++◌, List, length, take, AllZip, keep_last}
use Rattle.ring_core.specs.Contents.{Counts}
use Rattle.ring_core.proofs.ring.RingBuffer.extend_from_slice.Given as goal

abbrev pub invariant-loop-item : goal.invariant-loop-item
invariant-loop-item g l =
    let R = g.Self.RingBuffer in
    (ys : List _) × AllZip g.T.Clone.is_clone (take l.item-index l.items) ys × (length ys ≡ l.item-index)
    × (R.contents l.self ≡ keep_last (R.limit l.fn.self) (R.contents l.fn.self ++ ys))
    × (R.limit l.self ≡ R.limit l.fn.self)
    × Counts R.limit R.contents R.slot_changes l.fn.self l.self l.item-index
