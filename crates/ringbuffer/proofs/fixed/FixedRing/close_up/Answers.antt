-- Each step by what stands for it between the turns.
use Rattle.ringbuffer.proofs.Words.{arith, of_calls, called_at}
use Rattle.ringbuffer.proofs.KeptItems.{closed, closes_none, dropped, full, moved, stayed}
use Rattle.ringbuffer.proofs.fixed.FixedRing.close_up.Goals as goal

pub loop-index-init : goal.loop-index-init
loop-index-init g c = record { callable = c.requires.callable; within = omega arith; closes = closes_none _ _ _ _ c.requires.span.laid_out }

pub get-requires : goal.get-requires
get-requires g c = full _ _ _ _ c.requires.span.laid_out c.loop-index.invariant.closes (omega (arith, c.requires.span.len)) _ c.place_branchless-place.ensures

pub loop-index-preserved-then-not-keep : goal.loop-index-preserved-then-not-keep
loop-index-preserved-then-not-keep g c = record {
  callable = search of_calls;
  within = let within = c.loop-index.invariant.within in omega (arith, within);
  closes = dropped _ _ _ _ c.requires.span.laid_out c.loop-index.invariant.closes (omega (arith, c.requires.span.len)) _ c.place_branchless-place.ensures _ c.get.ensures _ _ (called_at g.F.FnMut c.keep.ensures c.if-not-keep.true) c.discard.ensures;
}

pub loop-index-preserved : goal.loop-index-preserved
loop-index-preserved g c =
    let at = c.loop-index.invariant in let laid_out = c.requires.span.laid_out in
    let answer = called_at g.F.FnMut c.keep.ensures c.if-not-keep.false in record {
      callable = search of_calls;
      within = let within = at.within in omega (arith, within);
      closes = elim c.if-kept-index.branch [
        | goal.then-kept-index w ↦ rw w.slots-is (moved _ _ _ _ laid_out at.closes (omega (arith, c.requires.span.len)) _ c.place_branchless-place.ensures _ c.get.ensures w.if-kept-index.true _ _ answer w.move_item.ensures)
        | goal.else-kept-index w ↦ let within = at.within in rw w.slots-is (stayed _ _ _ _ laid_out at.closes (omega (arith, c.requires.span.len)) _ c.place_branchless-place.ensures _ c.get.ensures (omega (arith, within, w.if-kept-index.false)) _ answer)
      ];
    }

pub returns-clause-kept : goal.returns-clause-kept
returns-clause-kept g c = closed _ _ _ _ c.requires.span.laid_out c.loop-index.invariant.closes (omega (arith, c.requires.span.len, c.loop-index-test.false, c.loop-index.auto.index-end))
