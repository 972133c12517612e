pub returns : Rattle.ringbuffer.proofs.grow.GrowableAllocRingBuffer.truncate.Goals.returns
returns g c = search Rattle.std.proofs.Common.rules
