pub returns-then-len-size : Rattle.ring_slots.proofs.place.wrapped_after.Goals.returns-then-len-size
returns-then-len-size c = search Rattle.std.proofs.Common.rules
