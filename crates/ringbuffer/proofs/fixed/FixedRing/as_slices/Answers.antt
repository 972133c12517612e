use Rattle.ringbuffer.proofs.Stretches.{in_two}
use Rattle.ringbuffer.proofs.fixed.FixedRing.as_slices.Goals as goal

pub slice-requires : goal.slice-requires
slice-requires g c = (in_two _ _ _ c.self.invariant c.self.view_is (rw c.size.ensures.value at c.min-first.ensures)).front

pub slice-requires-2 : goal.slice-requires-2
slice-requires-2 g c = (in_two _ _ _ c.self.invariant c.self.view_is (rw c.size.ensures.value at c.min-first.ensures)).rest

pub returns-clause-items : goal.returns-clause-items
returns-clause-items g c =
    (in_two _ _ _ c.self.invariant c.self.view_is (rw c.size.ensures.value at c.min-first.ensures)).whole _ _ c.slice.ensures c.slice-2.ensures
