use Rattle.ringbuffer.proofs.Words.{length-take-le, ◌≡◌, ◌+◌, ◌-◌, append_assoc, arith, drop-drop, length, refl, sym, take}
use Rattle.ringbuffer.proofs.Stretches.{InTwo, firsts_in_two}
use Rattle.ringbuffer.proofs.fixed.FixedRing.copy_stretches.Goals as goal
use Rattle.ringbuffer.proofs.fixed.FixedRing.copy_stretches.Goals.{After-split_at_mut-front}

-- the items that are copied lie in two stretches, as long as the parts of the output that take them
both : (g : _) (c : After-split_at_mut-front g) → InTwo (g.S.RingSlots.seen c.self.inside.slots).slots c.self.inside.span.start (length c.split_at_mut-front.result.0.now)
    (length (take (c.min-count.result - c.min-first.result) c.split_at_mut-front.result.1.now)) (take c.min-count.result c.args.self.now.items)
both g c =
    let places = length-take-le (c.min-count.result - c.min-first.result) c.split_at_mut-front.result.1.now (omega arith) in
    rw (c.split_at_mut-front.ensures.front_len, places) (firsts_in_two _ _ _ c.self.invariant c.self.view_is (omega arith) (rw c.size.ensures.value at c.min-first.ensures))

pub copy_stretch-requires : goal.copy_stretch-requires
copy_stretch-requires g c = (both g c.before).front

pub copy_stretch-requires-2 : goal.copy_stretch-requires-2
copy_stretch-requires-2 g c = (both g c.before.before.before.before).rest

-- The two stretches are the first items.
pub returns-clause-copied : goal.returns-clause-copied
returns-clause-copied g c =
    let all : c.min-first.result + (c.min-count.result - c.min-first.result) ≡ c.min-count.result = omega arith in
    let both = (both g c.before.before.before.before.before.before.before.before).whole _ _ c.copy_stretch.ensures c.copy_stretch-2.ensures in
    rw (sym both, c.split_at_mut-front.ensures.back, drop-drop, all, append_assoc) refl
