use Rattle.std.proofs.Common.{◌≡◌, ◌≤◌, ◌+◌, ◌-◌, ◌++◌, length, take}
use Rattle.ring_uses.proofs.pipe.relay.Given as goal

-- what was received is what was sent and what is on its way, in order
abbrev pub invariant-loop-sent : goal.invariant-loop-sent
invariant-loop-sent l = record {
  within : l.received ≤ length l.input;
  on_its_way : l.sent + length l.pipe.bytes ≡ l.received;
  capacity : l.pipe.capacity ≡ l.fn.pipe.capacity;
  in_order : take l.sent l.output ++ l.pipe.bytes ≡ take l.received l.input;
}

abbrev pub decreases-loop-sent : goal.decreases-loop-sent
decreases-loop-sent l = length l.output - l.sent
