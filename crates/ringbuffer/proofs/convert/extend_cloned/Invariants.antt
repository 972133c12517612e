use Rattle.ringbuffer.proofs.Words.{◌≡◌, ◌++◌, List, map, AllZip, keep_last}
use Rattle.ringbuffer.proofs.convert.extend_cloned.Given as goal

-- the clones so far came after the old items
abbrev pub invariant-loop-item : goal.invariant-loop-item
invariant-loop-item g l =
    let R = g.R.RingBuffer in
    (R.limit l.ring ≡ R.limit l.fn.ring)
    × ((ys : List _) × AllZip g.T.Clone.is_clone (map (λ x. x.now) l.yielded) ys × (R.contents l.ring ≡ keep_last (R.limit l.fn.ring) (R.contents l.fn.ring ++ ys)))
