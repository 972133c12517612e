pub returns-clause-lower : Rattle.ring_core.proofs.iter.RingBufferIteratorIterator.size_hint.Goals.returns-clause-lower
returns-clause-lower g c = search Rattle.std.proofs.Common.rules

pub returns-clause-exact : Rattle.ring_core.proofs.iter.RingBufferIteratorIterator.size_hint.Goals.returns-clause-exact
returns-clause-exact g c = search Rattle.std.proofs.Common.rules
