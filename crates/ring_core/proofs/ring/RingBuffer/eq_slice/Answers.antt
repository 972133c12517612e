use Rattle.ring_core.proofs.Words.{◌∙◌, arith, sym}
use Rattle.ring_core.proofs.Reading.{drop_at, drop_read}
use Rattle.ring_core.proofs.ring.RingBuffer.eq_slice.Goals as goal

-- The pair at the index differs.
pub returns-then-not-same : goal.returns-then-not-same
returns-then-not-same g c =
    let read = drop_read (g.Self.RingBuffer.contents c.args.self.now) c.loop-i.i _ c.unwrap.result (omega arith) c.get.ensures.value c.unwrap.ensures in
    let other = drop_at c.args.items.now c.loop-i.i c.index-items-i.result c.loop-i-test.true c.index-items-i.is in
    rw (read, other, sym c.eq-same.ensures ∙ c.if-not-same.true) at c.loop-i.invariant

-- It is equal.
pub loop-i-preserved : goal.loop-i-preserved
loop-i-preserved g c =
    let read = drop_read (g.Self.RingBuffer.contents c.args.self.now) c.loop-i.i _ c.unwrap.result (omega arith) c.get.ensures.value c.unwrap.ensures in
    let other = drop_at c.args.items.now c.loop-i.i c.index-items-i.result c.loop-i-test.true c.index-items-i.is in
    rw (read, other, sym c.eq-same.ensures ∙ c.if-not-same.false) at c.loop-i.invariant
