-- the items passed are copied
use Rattle.ringbuffer.proofs.Words.{◌≡◌, ◌++◌, drop, take}
use Rattle.ringbuffer.proofs.fixed.FixedRing.copy_each.Given as goal

abbrev pub invariant-loop-k : goal.invariant-loop-k
invariant-loop-k g l = l.output ≡ take l.k l.self.items ++ drop l.k l.initial.output
