use Rattle.ringbuffer.proofs.Words.{◌∙◌, sym}
use Rattle.ringbuffer.proofs.Paired.{full_at, set-copied}
use Rattle.ringbuffer.proofs.Stretches.{stretch_at}
use Rattle.ringbuffer.proofs.fixed.FixedRing.copy_stretch.Goals as goal

pub get-requires : goal.get-requires
get-requires g c = full_at _ _ _ c.requires c.loop-k.k c.loop-k-test.true

-- The next item lands after those that were copied.
pub loop-k-preserved : goal.loop-k-preserved
loop-k-preserved g c =
    λ xs holds. let item = sym (stretch_at _ _ _ c.loop-k.k xs holds c.loop-k-test.true) ∙ c.get.ensures in
    rw (c.loop-k.invariant xs holds) (set-copied xs c.args.output.now _ _ item c.loop-k-test.true)
