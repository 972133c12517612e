use Rattle.ring_core.proofs.Words.{IsSome, length, ◌+◌, ◌≡◌, ◌≤◌}
use denote.Param.Always.{always_mut}
use Rattle.std.specs.Fn.{CalledAt}
use Rattle.ring_core.proofs.RetainedItems.{Picks}
use Rattle.ring_core.proofs.ring.RingBuffer.retain.Given as goal

-- the changes are two for each turn, less one for each item dropped
abbrev pub invariant-loop : goal.invariant-loop
invariant-loop g l =
    let R = g.Self.RingBuffer in
    record {
      picks : Picks (CalledAt g.F.FnMut) l.initial.keep (R.contents l.fn.self) (R.contents l.self) l.keep l.counter;
      callable : always_mut g.F.FnMut l.keep;
      limit : R.limit l.self ≡ R.limit l.fn.self;
      changes : IsSome (R.limit l.fn.self) → (R.slot_changes l.fn.self ≤ R.slot_changes l.self)
          × (R.slot_changes l.self + length (R.contents l.fn.self) ≤ R.slot_changes l.fn.self + length (R.contents l.self) + (l.counter + l.counter));
    }
