pub returns : Rattle.ring_slots.proofs.array.ArraySlotsRingSlots.put.Goals.returns
returns g c = search Rattle.std.proofs.Common.rules
