pub returns-clause-items : Rattle.ringbuffer.proofs.grow.GrowableAllocRingBuffer.from_vec.Goals.returns-clause-items
returns-clause-items g c = search Rattle.std.proofs.Common.rules
