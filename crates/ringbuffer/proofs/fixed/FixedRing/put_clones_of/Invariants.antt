-- So far as many clones are put as turns were taken.
use Rattle.ringbuffer.proofs.Words.{◌≡◌, All, List, length, after_puts, view_from, LaysOut}
use Rattle.ringbuffer.proofs.fixed.FixedRing.put_clones_of.Given as goal

abbrev pub invariant-loop-len : goal.invariant-loop-len
invariant-loop-len g l = record {
  put : (xs : List _) × All (g.T.Clone.is_clone l.value) xs × (length xs ≡ l.len)
      × LaysOut (g.S.RingSlots.seen l.initial.slots) (g.S.RingSlots.seen l.slots) 0 (after_puts xs (view_from (g.S.RingSlots.seen l.initial.slots) 0));
}
