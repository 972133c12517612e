pub returns-then-place-size : Rattle.ring_slots.proofs.place.wrapped_next.Goals.returns-then-place-size
returns-then-place-size c = search Rattle.std.proofs.Common.rules
