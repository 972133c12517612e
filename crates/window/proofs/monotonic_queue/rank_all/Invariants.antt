use Rattle.std.proofs.Common.{◌≡◌, ◌+◌, ◌*◌, ◌≤◌, length, drop}
use Rattle.window.specs.MonotonicQueue.{IsRanked, items_on}
use Rattle.window.proofs.monotonic_queue.rank_all.Given as goal

-- the items from the place on are ranked
abbrev pub invariant-loop-at : goal.invariant-loop-at
invariant-loop-at g l =
    let now = g.R.RingBuffer.contents l.ring in
    record {
      within : l.at ≤ length now;
      ranked : IsRanked g.O.Order.cmp (drop l.at now) l.first l.counts.compared (2 * l.counts.pushed);
      pushed : l.counts.pushed + l.at ≡ length (g.R.RingBuffer.contents l.fn.ring);
      items : items_on now ≡ items_on (g.R.RingBuffer.contents l.fn.ring);
      limit : g.R.RingBuffer.limit l.ring ≡ g.R.RingBuffer.limit l.fn.ring;
    }

abbrev pub decreases-loop-at : goal.decreases-loop-at
decreases-loop-at g l = l.at
