pub returns-then-len : Rattle.ringbuffer.proofs.grow.compare.GrowableAllocRingBufferPartialEq.eq.Goals.returns-then-len
returns-then-len g c = search Rattle.std.proofs.Common.rules
