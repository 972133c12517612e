use Rattle.std.proofs.Common.{◌≡◌, List, ◌++◌, length}
use Rattle.ringbuffer.specs.Walk.{iterator_to_come}
use Rattle.window.proofs.tally_window.WindowTally.new.Given as goal

-- the items before the walk are tallied and counted, and behind them are those to come
abbrev pub invariant-loop-item : goal.invariant-loop-item
invariant-loop-item g l =
    (before : List g.row.T.Denot) × (before ++ iterator_to_come g.R.RingBuffer.contents l.item-iterator ≡ g.R.RingBuffer.contents l.fn.ring)
    × g.S.Tally.tells l.counted.tally before × (l.counted.added ≡ length before) × (l.counted.removed ≡ 0)
