use Rattle.std.proofs.Common.{refl}
use Rattle.ring_uses.proofs.tail.LogTail.new.Goals as goal

pub returns : goal.returns
returns c = rw c.in_ok-new.ensures.made refl
