-- So far as many clones are put as turns were taken.
use Rattle.ringbuffer.proofs.Words.{◌≡◌, AllZip, List, length, take, after_puts, view_from, LaysOut}
use Rattle.ringbuffer.proofs.fixed.FixedRing.clone_into_slots.Given as goal

abbrev pub invariant-loop-len : goal.invariant-loop-len
invariant-loop-len g l = record {
  put : (ys : List _) × AllZip g.T.Clone.is_clone (take l.len l.fn.self.items) ys × (length ys ≡ l.len)
      × LaysOut (g.S.RingSlots.seen l.initial.slots) (g.S.RingSlots.seen l.slots) 0 (after_puts ys (view_from (g.S.RingSlots.seen l.initial.slots) 0));
}
