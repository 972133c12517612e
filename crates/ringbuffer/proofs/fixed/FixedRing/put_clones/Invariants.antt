-- So far the items that were passed have their clones.
use Rattle.ringbuffer.proofs.Words.{◌≡◌, List, length, take, AllZip, after_puts, view_from, LaysOut}
use Rattle.ringbuffer.proofs.fixed.FixedRing.put_clones.Given as goal

abbrev pub invariant-loop-i : goal.invariant-loop-i
invariant-loop-i g l =
    (ys : List _) × AllZip g.T.Clone.is_clone (take l.i l.items) ys × (length ys ≡ l.i)
    × LaysOut (g.S.RingSlots.seen l.initial.slots) (g.S.RingSlots.seen l.slots) 0 (after_puts ys (view_from (g.S.RingSlots.seen l.initial.slots) 0))
