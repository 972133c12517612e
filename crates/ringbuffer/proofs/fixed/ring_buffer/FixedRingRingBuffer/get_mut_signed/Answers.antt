pub returns : Rattle.ringbuffer.proofs.fixed.ring_buffer.FixedRingRingBuffer.get_mut_signed.Goals.returns
returns g c = search Rattle.std.proofs.Common.rules
