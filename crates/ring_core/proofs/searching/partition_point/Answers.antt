use Rattle.ring_core.proofs.Words.{arith, sym}
use Rattle.std.proofs.Common.{of_calls}
use Rattle.std.proofs.lemmas.Fn.{called}
use Rattle.ring_core.proofs.BinarySearch.{answers_next, failed, passed}
use Rattle.ring_core.proofs.searching.partition_point.Goals as goal

pub loop-low-preserved-then-is_before : goal.loop-low-preserved-then-is_before
loop-low-preserved-then-is_before g c = record {
  in_order = omega arith;
  within = c.loop-low.invariant.within;
  callable = search of_calls;
  halves = λ p computes.
      let at = c.loop-low.invariant.halves p computes in
      let next = answers_next g.P.FnMut _ _ _ _ _ (called g.P.FnMut c.is_before.ensures c.if-is_before.true) at.0 in
      (next.1, passed at.1 _ c.item_at.result.now c.item_at.ensures (sym next.0));
}

pub loop-low-preserved : goal.loop-low-preserved
loop-low-preserved g c = record {
  in_order = omega arith;
  within = omega arith;
  callable = search of_calls;
  halves = λ p computes.
      let at = c.loop-low.invariant.halves p computes in
      let next = answers_next g.P.FnMut _ _ _ _ _ (called g.P.FnMut c.is_before.ensures c.if-is_before.false) at.0 in
      (next.1, failed at.1 _ c.item_at.result.now c.item_at.ensures (sym next.0));
}
