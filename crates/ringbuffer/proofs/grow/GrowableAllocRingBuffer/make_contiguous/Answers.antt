pub returns : Rattle.ringbuffer.proofs.grow.GrowableAllocRingBuffer.make_contiguous.Goals.returns
returns g c = search Rattle.std.proofs.Common.rules
