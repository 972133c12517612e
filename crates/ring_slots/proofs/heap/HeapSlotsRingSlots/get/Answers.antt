use Rattle.ring_slots.proofs.Words.{sym}
use Rattle.ring_slots.proofs.SlotsInMemory.{full_stretch}
use Rattle.ring_slots.proofs.heap.HeapSlotsRingSlots.get.Goals as goal

-- A full slot is a stretch of one.
pub slice-requires : goal.slice-requires
slice-requires g c = record { at = sym c.self.invariant.3.0; full = full_stretch c.self.inside.owner.slots c.args.place (rw (sym c.self.view_is) at c.requires) }
