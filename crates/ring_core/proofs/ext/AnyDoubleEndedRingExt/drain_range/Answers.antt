use Rattle.std.proofs.lemmas.Grind.{common_steps}
use Rattle.ring_core.proofs.Words.{arith}
use Rattle.ring_core.proofs.ext.AnyDoubleEndedRingExt.drain_range.Goals as goal

pub returns-clause-taken : goal.returns-clause-taken
returns-clause-taken g c = grind (arith, common_steps)

pub returns-clause-rest : goal.returns-clause-rest
returns-clause-rest g c = grind (arith, common_steps)
