use Rattle.ringbuffer.proofs.Words.{sym}
use Rattle.ring_core.proofs.Answered.{IsAnyAnswer-list_any}
use Rattle.ringbuffer.proofs.fixed.ring_buffer.FixedRingRingBuffer.contains.Goals as goal

pub returns-in-Some-clause-cases : goal.returns-in-Some-clause-cases
returns-in-Some-clause-cases g c =
    IsAnyAnswer-list_any (λ y. g.T.PartialEq.eq y c.args.x.now) c.args.self.now.items _ (rw (sym c.in-Some.ensures.items) c.is_in_slices.ensures)

pub returns-in-None-clause-cases : goal.returns-in-None-clause-cases
returns-in-None-clause-cases g c = IsAnyAnswer-list_any _ _ _ c.holds_by_stretch.ensures

pub returns-in-None-2-clause-cases : goal.returns-in-None-2-clause-cases
returns-in-None-2-clause-cases g c = IsAnyAnswer-list_any _ _ _ c.holds.ensures
