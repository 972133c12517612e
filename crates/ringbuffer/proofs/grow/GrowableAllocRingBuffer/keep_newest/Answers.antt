pub returns : Rattle.ringbuffer.proofs.grow.GrowableAllocRingBuffer.keep_newest.Goals.returns
returns g c = search Rattle.std.proofs.Common.rules
