pub returns-clause-after : Rattle.ring_slots.proofs.array.ArraySlotsRingSlots.take.Goals.returns-clause-after
returns-clause-after g c = search Rattle.std.proofs.Common.rules
