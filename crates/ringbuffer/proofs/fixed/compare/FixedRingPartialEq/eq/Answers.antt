-- Where numbers of items are equal, the items are where all their pairs are.
use Rattle.ringbuffer.proofs.Words.{nat_tests, arith}
use Rattle.ringbuffer.proofs.Paired.{pointwise_prefix}
use Rattle.ringbuffer.proofs.fixed.compare.FixedRingPartialEq.eq.Goals as goal

pub returns-in_default : goal.returns-in_default
returns-in_default g c =
    let pairs = pointwise_prefix g.T.PartialEq.eq c.args.self.now.items c.args.other.now.items (omega (arith, c.if-len.false, c.len.ensures.value, c.len-else-capacity.ensures.value)) in
    grind (arith, nat_tests, pairs, c.capacity.ensures.value, c.capacity-2.ensures.value, c.if-capacity.false, c.common_prefix_len.ensures, c.len-in_default.ensures.value)
