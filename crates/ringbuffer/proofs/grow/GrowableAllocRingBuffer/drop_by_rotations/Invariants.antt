use Rattle.ringbuffer.proofs.Words.{◌≡◌, ◌+◌, ◌-◌, ◌≤◌, drop, deque_len}
use Rattle.ringbuffer.proofs.grow.GrowableAllocRingBuffer.drop_by_rotations.Given as goal

-- the first ones are gone, but for as many as are left
abbrev pub invariant-loop-left : goal.invariant-loop-left
invariant-loop-left g l =
    (l.self-inside.deque.items ≡ drop (l.count - l.left) l.initial.self-inside.deque.items)
    × (l.left ≤ l.count) × (l.left ≤ deque_len l.self-inside.deque)

abbrev pub decreases-loop-left : goal.decreases-loop-left
decreases-loop-left g l = l.left + 1 - 32
