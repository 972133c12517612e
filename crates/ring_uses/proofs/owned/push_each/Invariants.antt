use Rattle.std.proofs.Common.{◌≡◌, ◌++◌, Some, take}
use Rattle.ringbuffer.specs.Contents.{keep_last}
use Rattle.ring_uses.proofs.owned.push_each.Given as goal

-- the numbers so far are pushed
abbrev pub invariant-loop-number : goal.invariant-loop-number
invariant-loop-number l = record {
  contents : l.ring.items ≡ keep_last (Some l.fn.ring.capacity) (l.fn.ring.items ++ take l.number-index l.numbers);
  capacity : l.ring.capacity ≡ l.fn.ring.capacity;
}
