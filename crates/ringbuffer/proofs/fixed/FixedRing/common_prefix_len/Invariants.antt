-- the pairs so far were equal
use Rattle.ringbuffer.proofs.Words.{◌≡◌, ◌+◌, drop, common_prefix_len}
use Rattle.ringbuffer.proofs.fixed.FixedRing.common_prefix_len.Given as goal

abbrev pub invariant-loop-k : goal.invariant-loop-k
invariant-loop-k g l = common_prefix_len g.T.PartialEq.eq l.fn.self.items l.fn.other.items ≡ l.k + common_prefix_len g.T.PartialEq.eq (drop l.k l.fn.self.items) (drop l.k l.fn.other.items)
