pub returns-clause-items : Rattle.ringbuffer.proofs.grow.GrowableAllocRingBuffer.pop_back.Goals.returns-clause-items
returns-clause-items g c = search Rattle.std.proofs.Common.rules

pub returns-clause-rest : Rattle.ringbuffer.proofs.grow.GrowableAllocRingBuffer.pop_back.Goals.returns-clause-rest
returns-clause-rest g c = search Rattle.std.proofs.Common.rules
