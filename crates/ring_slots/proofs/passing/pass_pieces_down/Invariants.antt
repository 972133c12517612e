-- the items from `end` on have passed, and those before it are as they were
use Rattle.ring_slots.proofs.Words.{◌≡◌, ◌≤◌, cut, length, take, passed_down}
use Rattle.ring_slots.proofs.passing.pass_pieces_down.Given as goal

abbrev pub invariant-loop-end : goal.invariant-loop-end
invariant-loop-end g l =
    (l.end ≤ length l.fn.items) × (take l.end l.items ≡ take l.end l.fn.items) × passed_down l.fn.item l.passed (cut l.end l.fn.items) (cut l.end l.items)

abbrev pub decreases-loop-end : goal.decreases-loop-end
decreases-loop-end g l = l.end
