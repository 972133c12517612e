use Rattle.ringbuffer.proofs.Words.{View, ap, arith, slice_get, sym, ◌∙◌}
use Rattle.ringbuffer.proofs.LaysOut.{first_full, first_held}
use Rattle.ringbuffer.proofs.fixed.FixedRing.first.Goals as goal

-- The start holds the first item.
pub get-requires : goal.get-requires
get-requires g c = first_full _ _ c.self.invariant.laid_out (omega (arith, c.if-self-eq0.false, c.self.invariant.counted))

pub returns : goal.returns
returns g c = sym c.get.ensures ∙ first_held _ _ c.self.invariant.laid_out ∙ ap (λ (v : View _). slice_get v.items 0) c.self.view_is
