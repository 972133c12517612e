use Rattle.ring_core.proofs.Words.{◌≡◌}
use Rattle.ring_core.proofs.Filling.{IsFilled}
use Rattle.ring_core.proofs.ring.RingBuffer.fill.Given as goal

abbrev pub invariant-loop : goal.invariant-loop
invariant-loop g l =
    let R = g.Self.RingBuffer in
    IsFilled (g.T.Clone.is_clone l.value) (R.limit l.fn.self) (R.contents l.fn.self) (R.contents l.self) (R.slot_changes l.fn.self) (R.slot_changes l.self) l.counter
    × (R.limit l.self ≡ R.limit l.fn.self)
