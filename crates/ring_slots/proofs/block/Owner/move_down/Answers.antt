use Rattle.ring_slots.proofs.Words.{arith, ◌∙◌, ◌-◌}
use Rattle.ring_slots.proofs.MovedDown.{is_moved_down, last_item, stretch_filled}
use Rattle.ring_slots.proofs.block.Owner.move_down.Goals as goal

-- One of the items that move.
pub detach-row-requires-clause-some : goal.detach-row-requires-clause-some
detach-row-requires-clause-some g c = last_item c.args.self.now.slots c.args.size c.args.from c.requires.some c.requires.full

pub move_within-requires : goal.move_within-requires
move_within-requires g c =
    let row = c.detach-row.ensures.row.1 in
    (omega (arith, row.size, c.requires.size, c.requires.some), omega (arith, row.size, c.requires.size, c.requires.some, c.requires.order), stretch_filled c.args.self.now.slots c.args.from (c.args.size - c.args.from) c.detach-row.result c.args.size c.requires.size c.requires.full row)

-- The row stands for the slots before and after the move.
pub returns : goal.returns
returns g c =
    let moves = c.move_within.ensures in
    let slots = is_moved_down c.args.self.now.slots c.attach.new.self.slots c.detach-row.result c.move_within.new.self c.args.size c.args.from c.args.to c.requires.size c.requires.some c.requires.order c.requires.full c.detach-row.ensures.row.1 c.attach.ensures.1
    moves.moved moves.items moves.filled.0 moves.filled.1 moves.places in
    λ i. record { mark = record {}; at = (c.attach.ensures.0 ∙ c.detach-row.ensures.left.0) i; slots = slots i }
