-- what the items from the place on say is what all say
use Rattle.ringbuffer.proofs.Words.{◌≡◌, ◌*◌, drop, list_any}
use Rattle.ringbuffer.proofs.two_slices.is_in_slice.Given as goal

abbrev pub invariant-loop-turn : goal.invariant-loop-turn
invariant-loop-turn g l = list_any (λ y. g.T.PartialEq.eq y l.x) (drop (4 * l.turn) l.items) ≡ list_any (λ y. g.T.PartialEq.eq y l.x) l.items
