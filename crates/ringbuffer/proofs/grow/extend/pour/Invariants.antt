use Rattle.ringbuffer.proofs.Words.{◌≡◌, ◌++◌}
use Rattle.ringbuffer.proofs.grow.extend.pour.Given as goal

-- the items so far came after the old ones
abbrev pub invariant-loop-item : goal.invariant-loop-item
invariant-loop-item g l = l.vec.items ≡ l.fn.vec.items ++ l.yielded
