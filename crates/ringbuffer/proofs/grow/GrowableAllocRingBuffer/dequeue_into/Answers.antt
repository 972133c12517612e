pub returns-clause-rest : Rattle.ringbuffer.proofs.grow.GrowableAllocRingBuffer.dequeue_into.Goals.returns-clause-rest
returns-clause-rest g c = search Rattle.std.proofs.Common.rules
