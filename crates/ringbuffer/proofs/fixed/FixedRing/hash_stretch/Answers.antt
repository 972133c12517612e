use Rattle.ringbuffer.proofs.Words.{◌∙◌, append-nil, arith, sym, take_all, flat_map-append, fold-append}
use Rattle.ringbuffer.proofs.Paired.{full_at, take_item}
use Rattle.ringbuffer.proofs.Stretches.{stretch_at, stretch_long}
use Rattle.ringbuffer.proofs.fixed.FixedRing.hash_stretch.Goals as goal

pub get-requires : goal.get-requires
get-requires g c = full_at _ _ _ c.requires c.loop-k.k c.loop-k-test.true

-- What one more item is fed comes after what those before it were fed.
pub loop-k-preserved : goal.loop-k-preserved
loop-k-preserved g c =
    λ xs held. let item = sym (stretch_at _ _ _ c.loop-k.k xs held c.loop-k-test.true) ∙ c.get.ensures in
    rw (take_item xs _ _ item, flat_map-append, fold-append, append-nil, sym (c.loop-k.invariant xs held)) c.hash.ensures

pub returns : goal.returns
returns g c =
    λ xs held. rw (take_all c.loop-k.k xs (omega (arith, c.loop-k-test.false, stretch_long _ _ _ xs held c.requires.0))) at (c.loop-k.invariant xs held)
