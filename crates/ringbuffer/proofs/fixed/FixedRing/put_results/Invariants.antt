-- So far the answers of the closure are put, and it may be called again.
use Rattle.ringbuffer.proofs.Words.{◌≡◌, List, length, FoldsTo, after_puts, view_from, LaysOut}
use Rattle.ringbuffer.proofs.fixed.FixedRing.put_results.Given as goal

abbrev pub invariant-loop-len : goal.invariant-loop-len
invariant-loop-len g l = record {
  callable : goal.F-IsAlwaysCallable g l.make;
  put : (xs : List _) × FoldsTo (goal.F-step g) l.fn.make xs l.make × (length xs ≡ l.len)
      × LaysOut (g.S.RingSlots.seen l.initial.slots) (g.S.RingSlots.seen l.slots) 0 (after_puts xs (view_from (g.S.RingSlots.seen l.initial.slots) 0));
}
