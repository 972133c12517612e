use Rattle.ringbuffer.proofs.Words.{◌≡◌, ◌-◌, ◌+◌, ◌≤◌, length, take, AllZip, deque_capacity, deque_len}
use Rattle.ringbuffer.proofs.grow.ends.GrowableAllocRingBufferDoubleEndedRing.clone_into.Given as goal

-- the clones of the first items were pushed, and there is room for those of the others
abbrev pub invariant-loop-i : goal.invariant-loop-i
invariant-loop-i g l =
    let items = l.self-inside.deque.items in let clones = l.other-inside.deque.items in
    AllZip g.T.Clone.is_clone (take (length clones) items) clones × (length clones ≡ l.i) × (deque_len l.other-inside.deque + (length items - l.i) ≤ deque_capacity l.other-inside.deque)
