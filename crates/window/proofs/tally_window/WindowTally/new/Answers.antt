use Rattle.std.proofs.Common.{◌≡◌, ◌++◌, ◌∷◌, [], ap, append_assoc, arith, length, length-append}
use Rattle.ringbuffer.specs.Walk.{iterator_to_come}
use Rattle.window.proofs.tally_window.WindowTally.new.Goals as goal

-- The items so far and this one are the ring's first, whose number is a usize.
pub add-requires : goal.add-requires
add-requires g c =
    let (before, parts, tells, taken, gone) = c.loop-item.invariant in
    let x = c.in-Some.item.now in
    let left = iterator_to_come g.R.RingBuffer.contents c.next.new.self in
    let all : before ++ x ∷ left ≡ g.R.RingBuffer.contents c.args.ring = rw c.in-Some.ensures.steps at parts in
    (before, tells, omega (arith, ap length all, length-append before (x ∷ left), c.len.ensures.value, c.len.type_inv))

-- This item comes last of those that are tallied.
pub loop-item-preserved : goal.loop-item-preserved
loop-item-preserved g c =
    let (before, parts, tells, taken, gone) = c.loop-item.invariant in
    let x = c.in-Some.item.now in
    let all : before ++ x ∷ iterator_to_come g.R.RingBuffer.contents c.next.new.self ≡ g.R.RingBuffer.contents c.args.ring = rw c.in-Some.ensures.steps at parts in
    (before ++ x ∷ [], rw append_assoc all, c.add.ensures.tells before tells, omega (arith, taken, c.add.ensures.added, length-append before (x ∷ [])), omega (arith, gone, c.add.ensures.removed))
