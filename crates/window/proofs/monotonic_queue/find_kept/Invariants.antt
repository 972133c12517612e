use Rattle.std.proofs.Common.{◌≡◌, ◌*◌, ◌≤◌}
use Rattle.window.specs.MonotonicQueue.{Reaches}
use Rattle.window.proofs.monotonic_queue.find_kept.Given as goal

-- none of the items that the loop went past is still named, and each was compared once
abbrev pub invariant-loop-left : goal.invariant-loop-left
invariant-loop-left g l = record {
  reaches : Reaches g.O.Order.cmp (g.R.RingBuffer.contents l.ring) l.first l.left l.counts.compared (2 * l.counts.pushed);
  pushed : l.counts.pushed ≡ l.fn.counts.pushed;
  rises : l.fn.counts.compared ≤ l.counts.compared;
}

abbrev pub decreases-loop-left : goal.decreases-loop-left
decreases-loop-left g l = l.left
