use Rattle.ring_core.proofs.Words.{IsSome, ChangesSlots, length, vec_capacity, ◌+◌, ◌++◌, ◌≡◌}
use Rattle.std.specs.Prelude.{reverse}
use Rattle.std.specs.Vec.{vec_len}
use Rattle.ring_core.proofs.taking.move_newest.Given as goal

-- the items left, and those moved the other way round, are the ring's old ones
abbrev pub invariant-loop : goal.invariant-loop
invariant-loop g l =
    let R = g.R.RingBuffer in
    record {
      moves : R.contents l.ring ++ reverse l.items.items ≡ R.contents l.fn.ring;
      moved : length l.items.items ≡ l.counter;
      len : vec_len l.items ≡ vec_len l.initial.items + l.counter;
      capacity : vec_capacity l.items ≡ vec_capacity l.initial.items;
      limit : R.limit l.ring ≡ R.limit l.fn.ring;
      changes : IsSome (R.limit l.fn.ring) → ChangesSlots (R.slot_changes l.fn.ring) (R.contents l.fn.ring) (R.slot_changes l.ring) (R.contents l.ring) 0;
    }
