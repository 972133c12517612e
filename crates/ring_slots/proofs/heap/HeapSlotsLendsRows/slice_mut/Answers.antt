pub returns : Rattle.ring_slots.proofs.heap.HeapSlotsLendsRows.slice_mut.Goals.returns
returns g c = search Rattle.std.proofs.Common.rules
