use Rattle.ring_core.proofs.Words.{◌≡◌, drop}
use Rattle.std.specs.Cmp.Lexicographic.{pointwise}
use Rattle.ring_core.proofs.ring.RingBuffer.eq_slice.Given as goal

-- what the items from the index on say is what all items say
abbrev pub invariant-loop-i : goal.invariant-loop-i
invariant-loop-i g l =
    let items = g.Self.RingBuffer.contents l.self in let eq = g.T.PartialEq.eq in
    pointwise eq (drop l.i items) (drop l.i l.items) ≡ pointwise eq items l.items
