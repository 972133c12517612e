use Rattle.ring_slots.proofs.Words.{◌∙◌}
use Rattle.ring_slots.proofs.Filled.{copied, first_item}
use Rattle.ring_slots.proofs.block.Owner.copy_in.Goals as goal

pub detach-row-requires-clause-some : goal.detach-row-requires-clause-some
detach-row-requires-clause-some g c = first_item c.args.items.now c.requires.some

-- The row stands for the slots before and after the copy.
pub returns : goal.returns
returns g c =
    let slots = copied c.args.self.now.slots c.attach.new.self.slots c.detach-row.result c.copy_in.new.self c.args.size c.args.place c.args.items.now c.requires.size c.requires.empty.0 c.detach-row.ensures.row.1 c.attach.ensures.1 c.copy_in.ensures.places
    c.copy_in.ensures.items c.copy_in.ensures.filled.0 c.copy_in.ensures.filled.1 in
    λ i. record { mark = record {}; at = (c.attach.ensures.0 ∙ c.detach-row.ensures.left.0) i; slots = slots i }
