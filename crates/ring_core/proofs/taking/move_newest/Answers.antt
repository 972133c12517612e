use Rattle.std.proofs.lemmas.Grind.{common_steps}
use Rattle.ring_core.proofs.Words.{arith, ◌∙◌}
use Rattle.ring_core.proofs.taking.move_newest.Goals as goal

-- The items, the other way round, end the ring's old ones.
pub returns-clause-taken : goal.returns-clause-taken
returns-clause-taken g c = c.reverse.ensures.items ∙ grind (arith, common_steps)

pub loop-preserved : goal.loop-preserved
loop-preserved g c = grind (arith, common_steps)
