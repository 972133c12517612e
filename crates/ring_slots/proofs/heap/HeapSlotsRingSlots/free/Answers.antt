pub deallocate-requires-clause-empty : Rattle.ring_slots.proofs.heap.HeapSlotsRingSlots.free.Goals.deallocate-requires-clause-empty
deallocate-requires-clause-empty g c = search Rattle.std.proofs.Common.rules
