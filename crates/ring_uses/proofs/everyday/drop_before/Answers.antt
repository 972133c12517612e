use Rattle.std.proofs.Common.{nat_lt, of_calls}
use Rattle.ring_uses.proofs.everyday.drop_before.Goals as goal

pub returns : goal.returns
returns g c = c.dequeue_while.ensures.first (λ t. nat_lt t c.args.time) (search of_calls)
