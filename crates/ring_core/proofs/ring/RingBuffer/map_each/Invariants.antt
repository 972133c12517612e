use Rattle.ring_core.proofs.Words.{IsSome, ◌+◌, ◌≡◌, ◌≤◌}
use denote.Param.Always.{always_mut}
use Rattle.std.specs.Fn.{CalledAt}
use Rattle.ring_core.proofs.Mapped.{Maps}
use Rattle.ring_core.proofs.ring.RingBuffer.map_each.Given as goal

abbrev pub invariant-loop-i : goal.invariant-loop-i
invariant-loop-i g l =
    let R = g.Self.RingBuffer in
    record {
      maps : Maps (CalledAt g.F.FnMut) l.initial.f (R.contents l.fn.self) (R.contents l.self) l.f l.i;
      callable : always_mut g.F.FnMut l.f;
      limit : R.limit l.self ≡ R.limit l.fn.self;
      changes : IsSome (R.limit l.fn.self) → (R.slot_changes l.fn.self ≤ R.slot_changes l.self) × (R.slot_changes l.self ≤ R.slot_changes l.fn.self + l.i);
    }
