use Rattle.ringbuffer.proofs.Words.{◌≡◌, ◌++◌, drop, take}
use Rattle.ringbuffer.proofs.grow.GrowableAllocRingBuffer.dequeue_each.Given as goal

-- the items passed lie in the first places, and the others are still in the deque
abbrev pub invariant-loop-k : goal.invariant-loop-k
invariant-loop-k g l =
    (l.deque.items ≡ drop l.k l.initial.deque.items)
    × (l.output ≡ take l.k l.initial.deque.items ++ drop l.k l.initial.output)
