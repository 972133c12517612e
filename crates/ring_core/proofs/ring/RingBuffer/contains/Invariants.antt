use Rattle.ring_core.proofs.Words.{◌≡◌, drop, list_any}
use Rattle.ring_core.proofs.ring.RingBuffer.contains.Given as goal

-- what the items from the index on say is what all items say
abbrev pub invariant-loop-i : goal.invariant-loop-i
invariant-loop-i g l =
    let items = g.Self.RingBuffer.contents l.self in
    list_any (λ y. g.T.PartialEq.eq y l.x) (drop l.i items) ≡ list_any (λ y. g.T.PartialEq.eq y l.x) items
