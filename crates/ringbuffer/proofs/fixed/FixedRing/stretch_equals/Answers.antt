use Rattle.ringbuffer.proofs.Words.{sym}
use Rattle.ring_core.proofs.Reading.{drop_at}
use Rattle.ringbuffer.proofs.Paired.{ahead, full_at}
use Rattle.ringbuffer.proofs.fixed.FixedRing.stretch_equals.Goals as goal

pub get-requires : goal.get-requires
get-requires g c = full_at _ _ _ c.requires c.loop-k.k c.loop-k-test.true

-- The pair at the place differs.
pub returns-then-not-same : goal.returns-then-not-same
returns-then-not-same g c =
    λ xs held. let read = ahead _ _ _ c.requires xs held _ _ c.loop-k-test.true c.get.ensures in
    let other = drop_at c.args.items.now _ _ c.loop-k-test.true c.index-items-k.is in
    rw (read, other, sym c.eq-same.ensures, c.if-not-same.true) at (c.loop-k.invariant xs held)

-- It is equal.
pub loop-k-preserved : goal.loop-k-preserved
loop-k-preserved g c =
    λ xs held. let read = ahead _ _ _ c.requires xs held _ _ c.loop-k-test.true c.get.ensures in
    let other = drop_at c.args.items.now _ _ c.loop-k-test.true c.index-items-k.is in
    rw (read, other, sym c.eq-same.ensures, c.if-not-same.false) at (c.loop-k.invariant xs held)
