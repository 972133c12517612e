use Rattle.ring_slots.proofs.Words.{sym}
use Rattle.ring_slots.proofs.Shown.{size-seen}
use Rattle.ring_slots.proofs.copies.CopySlotsRingSlots.size.Goals as goal

pub returns-clause-value : goal.returns-clause-value
returns-clause-value g c = sym (size-seen c.self.inside c.self.invariant c.self.view_is)
