use Rattle.ring_uses.proofs.average.MovingAverage.mean.Goals as goal

pub returns-clause-none : goal.returns-clause-none
returns-clause-none g c = rw (← c.self.view_is) c.rounded_mean.ensures.none

pub returns-clause-mean : goal.returns-clause-mean
returns-clause-mean g c = rw (← c.self.view_is) c.rounded_mean.ensures.mean
