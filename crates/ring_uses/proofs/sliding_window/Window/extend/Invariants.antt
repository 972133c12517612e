use Rattle.std.proofs.Common.{◌≡◌, ◌++◌, Some, take}
use Rattle.ringbuffer.specs.Contents.{keep_last}
use Rattle.ring_uses.proofs.sliding_window.Window.extend.Given as goal

-- the samples so far are pushed
abbrev pub invariant-loop-sample : goal.invariant-loop-sample
invariant-loop-sample g l = l.self ≡ keep_last (Some g.row.N) (l.fn.self ++ take l.sample-index l.series)
