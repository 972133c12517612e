pub returns : Rattle.ringbuffer.proofs.grow.GrowableAllocRingBuffer.as_mut.Goals.returns
returns g c = search Rattle.std.proofs.Common.rules
