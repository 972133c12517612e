pub returns : Rattle.ring_core.proofs.ring.RingBuffer.back.Goals.returns
returns g c = search Rattle.std.proofs.Common.rules
