use Rattle.std.proofs.Common.{◌≡◌, ◌+◌, ◌≤◌, length, drop, map}
use Rattle.window.specs.TwoStacks.{AreFolded}
use Rattle.window.proofs.two_stacks.fold_all.Given as goal

abbrev pub invariant-loop-at : goal.invariant-loop-at
invariant-loop-at g l =
    let K = g.K.KeepsFold in
    let now = g.R.RingBuffer.contents l.ring in
    let before = g.R.RingBuffer.contents l.fn.ring in
    record {
      within : l.at ≤ length now;
      same : map K.item_of now ≡ map K.item_of before;
      limit : g.R.RingBuffer.limit l.ring ≡ g.R.RingBuffer.limit l.fn.ring;
      folded : AreFolded K.item_of K.after_of K.folds_to (drop l.at now);
      after : K.folds_to (map K.item_of (drop l.at now)) l.after;
      counted : l.folds.calls + l.at ≡ l.fn.folds.calls + length before;
    }

abbrev pub decreases-loop-at : goal.decreases-loop-at
decreases-loop-at g l = l.at
