use Rattle.ringbuffer.proofs.Words.{◌≡◌, ◌-◌, ◌≤◌, drop, deque_len}
use Rattle.ringbuffer.proofs.grow.slices.without_first.Given as goal

-- the first ones are gone, as many as the deque has fewer
abbrev pub invariant-loop-deque : goal.invariant-loop-deque
invariant-loop-deque g l =
    (l.deque.items ≡ drop (deque_len l.initial.deque - deque_len l.deque) l.initial.deque.items)
    × (l.rest ≤ deque_len l.deque)
    × (deque_len l.deque ≤ deque_len l.initial.deque)

abbrev pub decreases-loop-deque : goal.decreases-loop-deque
decreases-loop-deque g l = deque_len l.deque
