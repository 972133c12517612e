pub returns : Rattle.ringbuffer.proofs.fixed.FixedRing.keep_newest.Goals.returns
returns g c = search Rattle.std.proofs.Common.rules
