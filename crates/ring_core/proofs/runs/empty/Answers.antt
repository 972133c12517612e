pub loop-place-preserved : Rattle.ring_core.proofs.runs.empty.Goals.loop-place-preserved
loop-place-preserved g c = grind (Rattle.std.proofs.Common.arith, Rattle.std.proofs.lemmas.Grind.common_steps)
