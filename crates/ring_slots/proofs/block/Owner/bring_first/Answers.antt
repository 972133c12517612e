use Rattle.ring_slots.proofs.Words.{inr, arith, ◌∙◌, ◌-◌}
use Rattle.ring_slots.proofs.MovedDown.{brought, last_item, stretch_filled}
use Rattle.ring_slots.proofs.block.Owner.bring_first.Goals as goal

-- One of the items that go first.
pub detach-row-requires-clause-some : goal.detach-row-requires-clause-some
detach-row-requires-clause-some g c = last_item c.args.self.now.slots c.args.size c.args.from c.requires.some c.requires.last

pub move_within-requires : goal.move_within-requires
move_within-requires g c =
    let row = c.detach-row.ensures.row.1 in
    (omega (arith, row.size, c.requires.size, c.requires.some, c.requires.room), omega (arith, row.size, c.requires.size, c.requires.some, c.requires.room), stretch_filled c.args.self.now.slots 0 c.args.len c.detach-row.result c.args.size c.requires.size c.requires.first row)

-- The last items lie where they lay.
pub move_over-requires : goal.move_over-requires
move_over-requires g c =
    let row = c.detach-row.ensures.row.1 in let count = c.move_within.ensures.places.count in
    let filled = stretch_filled c.args.self.now.slots c.args.from (c.args.size - c.args.from) c.detach-row.result c.args.size c.requires.size c.requires.last row in
    (omega (arith, row.size, count, c.requires.size, c.requires.some), omega (arith, row.size, count, c.requires.size, c.requires.some), λ k late low. c.move_within.ensures.filled.1 k (inr (omega (arith, c.requires.room))) ∙ filled k late low)

-- The row stands for the slots before and after the moves.
pub returns : goal.returns
returns g c =
    let up = c.move_within.ensures in let down = c.move_over.ensures in
    let slots = brought c.args.self.now.slots c.attach.new.self.slots c.detach-row.result c.move_within.new.self c.move_over.new.self c.args.size c.args.from c.args.len c.requires.size c.requires.some c.requires.room c.requires.last c.requires.first c.detach-row.ensures.row.1 c.attach.ensures.1
    up.moved up.items up.filled.0 up.places down.moved down.items down.filled.0 down.filled.1 down.places in
    λ i. record { mark = record {}; at = (c.attach.ensures.0 ∙ c.detach-row.ensures.left.0) i; slots = slots i }
