use Rattle.ring_core.proofs.Words.{Bool, length, ◌-◌, ◌≤◌}
use Rattle.std.specs.Fn.{ComputesKey}
use denote.Param.Always.{always_mut}
use Rattle.ring_core.proofs.BinarySearch.{Halves}
use Rattle.ring_core.proofs.searching.partition_point.Given as goal

abbrev pub invariant-loop-low : goal.invariant-loop-low
invariant-loop-low g l =
    let xs = g.R.RingBuffer.contents l.ring in
    record {
      in_order : l.low ≤ l.high;
      within : l.high ≤ length xs;
      callable : always_mut g.P.FnMut l.is_before;
      halves : (p : g.row.T.Denot → Bool) → ComputesKey g.P.FnMut p l.initial.is_before → ComputesKey g.P.FnMut p l.is_before × Halves p xs l.low l.high;
    }

abbrev pub decreases-loop-low : goal.decreases-loop-low
decreases-loop-low g l = l.high - l.low
