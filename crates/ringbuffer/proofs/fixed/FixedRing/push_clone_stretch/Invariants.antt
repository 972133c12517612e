-- So far as many clones are pushed as turns were taken.
use Rattle.ringbuffer.proofs.Words.{List, take, AllZip}
use Rattle.ringbuffer.proofs.PushedStretch.{Pushed}
use Rattle.ringbuffer.proofs.fixed.FixedRing.push_clone_stretch.Given as goal

abbrev pub invariant-loop-i : goal.invariant-loop-i
invariant-loop-i g l =
    (ys : List _) × AllZip g.T.Clone.is_clone (take l.i l.items) ys × Pushed (g.S.RingSlots.seen l.initial.slots) l.span l.capacity l.full (g.S.RingSlots.seen l.slots) l.i ys
