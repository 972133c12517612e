pub returns : Rattle.ring_slots.proofs.array.ArraySlots.slot_mut.Goals.returns
returns g c = grind (Rattle.std.proofs.Common.arith, Rattle.std.proofs.lemmas.Grind.common_steps)
