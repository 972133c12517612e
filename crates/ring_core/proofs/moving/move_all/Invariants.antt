use Rattle.ring_core.proofs.Words.{◌≡◌, IsSome, length, ChangesSlots}
use Rattle.ring_core.proofs.MovedItems.{HasMoved}
use Rattle.ring_core.proofs.moving.move_all.Given as goal

abbrev pub invariant-loop-item : goal.invariant-loop-item
invariant-loop-item g l =
    let A = g.A.RingBuffer in
    let B = g.B.RingBuffer in
    record {
      moves : HasMoved (A.limit l.fn.to) (A.contents l.fn.to) (B.contents l.fn.from) (A.contents l.to) (B.contents l.from) (A.slot_changes l.fn.to) (A.slot_changes l.to);
      limit_to : A.limit l.to ≡ A.limit l.fn.to;
      limit_from : B.limit l.from ≡ B.limit l.fn.from;
      changes_from : IsSome (B.limit l.fn.from) → ChangesSlots (B.slot_changes l.fn.from) (B.contents l.fn.from) (B.slot_changes l.from) (B.contents l.from) 0;
    }

abbrev pub decreases-loop-item : goal.decreases-loop-item
decreases-loop-item g l = length (g.B.RingBuffer.contents l.from)
