pub returns : Rattle.ring_slots.proofs.heap.HeapSlotsRingSlots.put.Goals.returns
returns g c = search Rattle.std.proofs.Common.rules
