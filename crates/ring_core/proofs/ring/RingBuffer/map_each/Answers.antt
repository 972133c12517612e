use Rattle.ring_core.proofs.Words.{◌<◌, ◌≡◌, ◌∙◌, Some, ap, arith, index_at, length, option_copied_mut, refl, slice_get, sym}
use Rattle.std.proofs.Common.{of_calls}
use Rattle.std.specs.Fn.{CalledAt}
use Rattle.std.proofs.lemmas.Fn.{called_at}
use Rattle.ring_core.proofs.Mapped.{all_mapped, map_same, length-mapped, nothing_mapped, turn}
use Rattle.ring_core.proofs.ring.RingBuffer.map_each.Goals as goal

pub loop-i-init : goal.loop-i-init
loop-i-init g c = record { maps = nothing_mapped _ _ _; callable = search of_calls; limit = refl; changes = λ some. (omega arith, omega arith) }

-- A call replaces the item at the next index.
pub loop-i-preserved : goal.loop-i-preserved
loop-i-preserved g c =
    let R = g.Self.RingBuffer in
    let at = c.loop-i.invariant in
    let now = R.contents c.loop-i.self in
    let i = c.loop-i.i in
    let more : i < length (R.contents c.args.self.now) = omega arith in
    let place : index_at (length now) i ≡ i = c.get_mut.ensures.in_range (omega (arith, length-mapped (CalledAt g.F.FnMut) at.maps (omega arith))) in
    let read : slice_get now i ≡ Some c.unwrap-item.result.now = sym (ap (slice_get now) place) ∙ sym c.get_mut.ensures.value ∙ ap option_copied_mut c.unwrap-item.ensures in
    record {
      maps = rw (g.met.Self.RingBuffer.sets_item c.loop-i.self (index_at (length now) i) c.f.result, place) (turn (CalledAt g.F.FnMut) at.maps more _ read c.f.result _ (called_at g.F.FnMut c.f.ensures refl));
      callable = search of_calls;
      limit = g.met.Self.RingBuffer.keeps_limit _ _ _ ∙ at.limit;
      changes = λ some. let before = at.changes some in let one = g.met.Self.RingBuffer.counts_write c.loop-i.self (index_at (length now) i) c.f.result (rw at.limit some) in (omega (arith, before, one), omega (arith, before, one));
    }

pub returns-clause-called : goal.returns-clause-called
returns-clause-called g c = all_mapped (CalledAt g.F.FnMut) c.loop-i.invariant.maps (omega arith)

pub returns-clause-value : goal.returns-clause-value
returns-clause-value g c = map_same (CalledAt g.F.FnMut) _ _ _ (all_mapped (CalledAt g.F.FnMut) c.loop-i.invariant.maps (omega arith))
