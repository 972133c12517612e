use Rattle.ringbuffer.proofs.fixed.FixedRing.extend.Goals as goal

pub returns-clause-extends : goal.returns-clause-extends
returns-clause-extends g c = c.extend.ensures.extends
