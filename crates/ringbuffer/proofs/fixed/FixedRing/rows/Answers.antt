use Rattle.ringbuffer.proofs.Stretches.{in_two}
use Rattle.ringbuffer.proofs.fixed.FixedRing.rows.Goals as goal

pub row-requires : goal.row-requires
row-requires g c = (in_two _ _ _ c.self.invariant c.self.view_is (rw c.size.ensures.value at c.min-first.ensures)).front

pub row-requires-2 : goal.row-requires-2
row-requires-2 g c = (in_two _ _ _ c.self.invariant c.self.view_is (rw c.size.ensures.value at c.min-first.ensures)).rest

-- The two stretches are the items.
pub returns-clause-items : goal.returns-clause-items
returns-clause-items g c =
    (in_two _ _ _ c.self.invariant c.self.view_is (rw c.size.ensures.value at c.min-first.ensures)).whole _ _ c.in_ok-before.ensures c.in_ok-behind.ensures
