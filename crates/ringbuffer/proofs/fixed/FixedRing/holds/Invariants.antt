use Rattle.ringbuffer.proofs.Words.{◌≡◌, drop, list_any}
use Rattle.ringbuffer.proofs.fixed.FixedRing.holds.Given as goal

-- what the items from the index on say is what all items say
abbrev pub invariant-loop-i : goal.invariant-loop-i
invariant-loop-i g l =
    let items = l.fn.self.items in
    list_any (λ y. g.T.PartialEq.eq y l.fn.x) (drop l.i items) ≡ list_any (λ y. g.T.PartialEq.eq y l.fn.x) items
