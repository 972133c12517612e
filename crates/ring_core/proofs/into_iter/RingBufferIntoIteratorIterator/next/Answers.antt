pub returns-clause-steps : Rattle.ring_core.proofs.into_iter.RingBufferIntoIteratorIterator.next.Goals.returns-clause-steps
returns-clause-steps g c = search Rattle.std.proofs.Common.rules
