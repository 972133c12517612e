pub returns : Rattle.ringbuffer.proofs.plain.convert.CopyRingBuffer+T+CAP.from_slice.Goals.returns
returns g c = search Rattle.std.proofs.Common.rules
