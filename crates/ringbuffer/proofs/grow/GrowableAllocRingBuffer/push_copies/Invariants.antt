-- So far the items that were passed are put, and there is room for the others.
use Rattle.ringbuffer.proofs.Words.{◌≡◌, ◌+◌, ◌-◌, ◌≤◌, ◌++◌, length, take, deque_capacity, deque_len}
use Rattle.ringbuffer.proofs.grow.GrowableAllocRingBuffer.push_copies.Given as goal

abbrev pub invariant-loop-i : goal.invariant-loop-i
invariant-loop-i g l =
    (l.self-inside.deque.items ≡ l.initial.self-inside.deque.items ++ take l.i l.items) × (deque_len l.self-inside.deque + (length l.items - l.i) ≤ deque_capacity l.self-inside.deque)
