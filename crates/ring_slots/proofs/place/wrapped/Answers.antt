pub returns-then-sum-size : Rattle.ring_slots.proofs.place.wrapped.Goals.returns-then-sum-size
returns-then-sum-size c = search Rattle.std.proofs.Common.rules
