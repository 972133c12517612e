use Rattle.ringbuffer.proofs.Words.{View, ap, arith, length}
use Rattle.ringbuffer.proofs.Paired.{next_pair, prefix_past}
use Rattle.ringbuffer.proofs.fixed.FixedRing.common_prefix_len.Goals as goal

-- One pair more is equal.
pub loop-k-preserved : goal.loop-k-preserved
loop-k-preserved g c =
    let more = rw c.if-not-same.false at (next_pair g.T.PartialEq.eq _ _ c.loop-k.k c.at.ensures c.at-in-loop-k.ensures c.eq-same.ensures) in omega arith

-- This pair differs.
pub returns-then-not-same : goal.returns-then-not-same
returns-then-not-same g c =
    let none = rw c.if-not-same.true at (next_pair g.T.PartialEq.eq _ _ c.loop-k.k c.at.ensures c.at-in-loop-k.ensures c.eq-same.ensures) in omega arith

-- One of the rings has no item left.
pub returns : goal.returns
returns g c =
    let long = ap (λ (v : View _). length v.items) c.self.view_is in let other_long = ap (λ (v : View _). length v.items) c.other.view_is in
    let none = prefix_past g.T.PartialEq.eq c.loop-k.k c.args.self.now.items c.args.other.now.items (omega arith) in
    omega arith
