pub returns : Rattle.ring_slots.proofs.heap.HeapSlotsRingSlots.next.Goals.returns
returns g c = search Rattle.std.proofs.Common.rules
