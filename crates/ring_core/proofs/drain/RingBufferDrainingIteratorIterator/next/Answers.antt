pub returns-clause-steps : Rattle.ring_core.proofs.drain.RingBufferDrainingIteratorIterator.next.Goals.returns-clause-steps
returns-clause-steps g c = search Rattle.std.proofs.Common.rules
