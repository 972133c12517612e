use Rattle.ringbuffer.proofs.Words.{arith, common_steps, rules, slice_get_cases}
use Rattle.ringbuffer.proofs.fixed.FixedRing.dequeue_one_into.Goals as goal

-- The first item lands in the only place.
pub returns-clause-copied : goal.returns-clause-copied
returns-clause-copied g c = grind (arith, common_steps, slice_get_cases)

pub returns-clause-rest : goal.returns-clause-rest
returns-clause-rest g c = search rules
