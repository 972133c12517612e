-- what the pairs from the place on say is what all say
use Rattle.ringbuffer.proofs.Words.{◌≡◌, ◌*◌, drop, pointwise}
use Rattle.ringbuffer.proofs.two_slices.same_items.Given as goal

abbrev pub invariant-loop-turn : goal.invariant-loop-turn
invariant-loop-turn g l = pointwise g.T.PartialEq.eq (drop (4 * l.turn) l.a) (drop (4 * l.turn) l.b) ≡ pointwise g.T.PartialEq.eq l.a l.b
