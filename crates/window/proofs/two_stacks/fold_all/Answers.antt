use Rattle.std.proofs.Common.{◌≡◌, ◌∷◌, ◌-◌, ◌<◌, ◌∙◌, [], Some, suc, length, drop, map, slice_get, sym, arith}
use Rattle.std.proofs.Math.Nat.{mod-eq_of_lt}
use Rattle.std.proofs.lemmas.List.{length-set}
use Rattle.ringbuffer.specs.Contents.{index_at}
use Rattle.window.proofs.Mapped.{map-set, drop_written}
use Rattle.window.proofs.two_stacks.fold_all.Goals as goal

-- The written item comes before those that are folded.
pub loop-at-preserved-in-Some : goal.loop-at-preserved-in-Some
loop-at-preserved-in-Some g c =
    let K = g.K.KeepsFold in
    let so_far = c.loop-at.invariant in
    let ks = g.R.RingBuffer.contents c.loop-at.ring in
    let i = c.loop-at.at - 1 in
    let k = c.in-Some.kept.now in
    let more = c.set_after.new.self in
    let below : i < length ks = omega (arith, so_far.within, c.loop-at-test.true) in
    let at : index_at (length ks) i ≡ i = mod-eq_of_lt below in
    let read : slice_get ks i ≡ Some k = rw at at (sym c.in-Some.ensures.value) in
    let next : suc i ≡ c.loop-at.at = omega (arith, c.loop-at-test.true) in
    let written = rw at at (g.met.R.RingBuffer.sets_item c.loop-at.ring (index_at (length ks) i) more) in
    let left = rw next at (drop_written ks i k more read) in
    let behind = map K.item_of (drop c.loop-at.at ks) in
    record {
      within = rw (at, written, length-set) (omega (arith, below));
      same = rw (at, written) (map-set K.item_of ks i k more read c.set_after.ensures.item) ∙ so_far.same;
      limit = g.met.R.RingBuffer.keeps_limit c.loop-at.ring (index_at (length ks) i) more ∙ so_far.limit;
      folded = rw (at, written, left, c.set_after.ensures.after) (so_far.after, so_far.folded);
      after = rw (at, written, left, ← c.item.ensures) (c.combined-after.ensures.both (c.item.result.now ∷ []) behind c.combined-after.ensures.earlier (rw (c.after.ensures, c.set_after.ensures.after) so_far.after));
      counted = omega (arith, c.combined-after.ensures.calls, so_far.counted, next);
    }
