use Rattle.ring_core.proofs.Words.{◌≡◌, ◌-◌, arith, length, rules}
use Rattle.std.proofs.lemmas.Grind.{common_steps}
use Rattle.ring_core.proofs.Rotated.{first_rotated, last_rotated, others_rotated, rotated_back}
use Rattle.ring_core.proofs.taking.take_between.Goals as goal

-- The items between are the oldest after the first rotation.
pub returns-then-start-len-clause-taken : goal.returns-then-start-len-clause-taken
returns-then-start-len-clause-taken g c =
    let xs = g.R.RingBuffer.contents c.args.ring.now in
    rw (c.move_oldest-items.ensures.taken, c.rotate_left.ensures.items) (first_rotated xs c.args.start c.args.end c.requires.order c.requires.within)

pub returns-then-start-len-clause-rest : goal.returns-then-start-len-clause-rest
returns-then-start-len-clause-rest g c = grind (arith, common_steps)

pub returns-then-start-len-clause-changes : goal.returns-then-start-len-clause-changes
returns-then-start-len-clause-changes g c = search rules

-- They are the newest after the other.
pub returns-else-start-len-clause-taken : goal.returns-else-start-len-clause-taken
returns-else-start-len-clause-taken g c =
    let xs = g.R.RingBuffer.contents c.args.ring.now in
    let others : length xs - (c.len-else-start-len.result - c.args.end) ≡ c.args.end = omega (arith, c.len-else-start-len.ensures.value, c.requires.within) in
    rw (c.move_newest-items.ensures.taken, c.rotate_right-else-start-len.ensures.items, others)
    (last_rotated xs c.args.start c.args.end c.requires.order c.requires.within)

pub returns-else-start-len-clause-rest : goal.returns-else-start-len-clause-rest
returns-else-start-len-clause-rest g c =
    let xs = g.R.RingBuffer.contents c.args.ring.now in
    let others : length xs - (c.len-else-start-len.result - c.args.end) ≡ c.args.end = omega (arith, c.len-else-start-len.ensures.value, c.requires.within) in
    rw (c.rotate_left-else-start-len.ensures.items, c.move_newest-items.ensures.rest, c.rotate_right-else-start-len.ensures.items, others)
    (rw (others_rotated xs c.args.start c.args.end c.requires.order c.requires.within)
    (rotated_back xs c.args.start c.args.end c.requires.order c.requires.within _ (omega (arith, c.len-else-start-len.ensures.value))))

pub returns-else-start-len-clause-changes : goal.returns-else-start-len-clause-changes
returns-else-start-len-clause-changes g c = search rules
