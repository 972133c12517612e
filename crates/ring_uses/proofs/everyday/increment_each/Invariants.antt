use Rattle.std.proofs.Common.{◌≡◌, ◌+◌, ◌-◌, ◌%◌, ◌^◌, ◌++◌, drop, length, map, take}
use Rattle.ring_uses.proofs.everyday.increment_each.Given as goal

-- once the items from the cursor on are incremented, all are
abbrev pub invariant-loop-item : goal.invariant-loop-item
invariant-loop-item g l =
    let now = g.R.RingBuffer.contents l.walk.ring.now in
    record {
      same_ring : l.walk.ring.ghost_name ≡ l.initial.walk.ring.ghost_name;
      to_the_end : l.walk.back ≡ length now;
      left : take l.walk.front now ++ map (λ x. (x + 1) % (2 ^ 32)) (drop l.walk.front now) ≡ map (λ x. (x + 1) % (2 ^ 32)) (g.R.RingBuffer.contents l.fn.ring);
      same_limit : g.R.RingBuffer.limit l.walk.ring.now ≡ g.R.RingBuffer.limit l.fn.ring;
    }

abbrev pub decreases-loop-item : goal.decreases-loop-item
decreases-loop-item g l = l.walk.back - l.walk.front
