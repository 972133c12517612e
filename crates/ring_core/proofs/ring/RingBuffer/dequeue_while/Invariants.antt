use Rattle.ring_core.proofs.Words.{FoldsTo, IsSome, ChangesSlots, drop, take, true, ◌≡◌}
use denote.Param.Always.{always_mut}
use Rattle.std.specs.Fn.{CalledAt}
use Rattle.ring_core.proofs.ring.RingBuffer.dequeue_while.Given as goal

abbrev pub invariant-loop-count : goal.invariant-loop-count
invariant-loop-count g l =
    let R = g.Self.RingBuffer in
    record {
      rest : R.contents l.self ≡ drop l.count (R.contents l.fn.self);
      passed : FoldsTo (λ f x h. CalledAt g.F.FnMut f x true h) l.initial.test (take l.count (R.contents l.fn.self)) l.test;
      callable : always_mut g.F.FnMut l.test;
      limit : R.limit l.self ≡ R.limit l.fn.self;
      changes : IsSome (R.limit l.fn.self) → ChangesSlots (R.slot_changes l.fn.self) (R.contents l.fn.self) (R.slot_changes l.self) (R.contents l.self) 0;
    }
