use Rattle.ringbuffer.proofs.LaysOut.{LaysOut-put}
use Rattle.ringbuffer.proofs.fixed.FixedRing.put_at.Goals as goal

pub returns : goal.returns
returns g c =
    LaysOut-put _ _ c.requires.span.laid_out _ _ _ _ c.requires.span.len c.requires.room c.requires.place c.put.ensures
