-- So far the items that were passed have their clones, which are pushed.
use Rattle.ringbuffer.proofs.Words.{◌≡◌, ◌-◌, ◌≤◌, List, length, take, AllZip, PushesOnto}
use Rattle.ringbuffer.proofs.fixed.FixedRing.push_clones.Given as goal

abbrev pub invariant-loop-done : goal.invariant-loop-done
invariant-loop-done g l =
    (ys : List _) × (length ys ≡ l.done) × (l.done ≤ length l.items) × AllZip g.T.Clone.is_clone (take l.done l.items) ys
    × PushesOnto (g.S.RingSlots.seen l.fn.slots) (g.S.RingSlots.seen l.slots) l.fn.span l.span l.capacity ys

abbrev pub decreases-loop-done : goal.decreases-loop-done
decreases-loop-done g l = length l.items - l.done
