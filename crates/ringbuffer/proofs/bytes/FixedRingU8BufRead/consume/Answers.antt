pub returns-then-amount-eq1-clause-bytes : Rattle.ringbuffer.proofs.bytes.FixedRingU8BufRead.consume.Goals.returns-then-amount-eq1-clause-bytes
returns-then-amount-eq1-clause-bytes g c = search Rattle.std.proofs.Common.rules

pub returns-then-amount-eq1-clause-rest : Rattle.ringbuffer.proofs.bytes.FixedRingU8BufRead.consume.Goals.returns-then-amount-eq1-clause-rest
returns-then-amount-eq1-clause-rest g c = search Rattle.std.proofs.Common.rules

pub returns-then-amount-eq1-clause-after : Rattle.ringbuffer.proofs.bytes.FixedRingU8BufRead.consume.Goals.returns-then-amount-eq1-clause-after
returns-then-amount-eq1-clause-after g c = search Rattle.std.proofs.Common.rules
