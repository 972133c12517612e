use Rattle.ringbuffer.proofs.Words.{◌≡◌, arith, sym}
use Rattle.ringbuffer.proofs.Paired.{ahead, full_at, none_left}
use Rattle.ringbuffer.proofs.fixed.FixedRing.stretch_holds.Goals as goal

pub get-requires : goal.get-requires
get-requires g c = full_at _ _ _ c.requires c.loop-k.k c.loop-k-test.true

pub loop-k-preserved : goal.loop-k-preserved
loop-k-preserved g c =
    λ ys held. rw (ahead _ _ _ c.requires ys held _ _ c.loop-k-test.true c.get.ensures, sym c.eq.ensures, c.if-eq.false) at (c.loop-k.invariant ys held)

pub returns-then-eq : goal.returns-then-eq
returns-then-eq g c =
    λ ys held. rw (ahead _ _ _ c.requires ys held _ _ c.loop-k-test.true c.get.ensures, sym c.eq.ensures, c.if-eq.true) at (c.loop-k.invariant ys held)

pub returns : goal.returns
returns g c =
    λ ys held. let all : c.loop-k.k ≡ c.args.len = omega arith in rw (all, none_left _ _ _ c.requires ys held) at (c.loop-k.invariant ys held)
