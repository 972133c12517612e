pub returns-else-full-clause-room : Rattle.ringbuffer.proofs.fixed.FixedRing.pushes_to_end.Goals.returns-else-full-clause-room
returns-else-full-clause-room c = search Rattle.std.proofs.Common.rules
