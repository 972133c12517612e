use Rattle.ringbuffer.proofs.Words.{sym}
use Rattle.ringbuffer.proofs.Paired.{drop_item}
use Rattle.ringbuffer.proofs.fixed.FixedRing.holds.Goals as goal

pub returns-then-eq : goal.returns-then-eq
returns-then-eq g c = rw (drop_item _ _ _ c.at.ensures, sym c.eq.ensures, c.if-eq.true) at c.loop-i.invariant

pub loop-i-preserved : goal.loop-i-preserved
loop-i-preserved g c = rw (drop_item _ _ _ c.at.ensures, sym c.eq.ensures, c.if-eq.false) at c.loop-i.invariant
