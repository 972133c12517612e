use Rattle.ring_slots.proofs.Words.{◌∙◌}
use Rattle.ring_slots.proofs.OneSlot.{put_there}
use Rattle.ring_slots.proofs.block.Owner.put.Goals as goal

pub returns : goal.returns
returns g c =
    let row = c.detach-row.result in
    let slots = put_there c.args.self.now.slots c.attach.new.self.slots row c.put.new.self c.args.size c.args.place c.requires.size c.requires.place c.detach-row.ensures.row.1 c.attach.ensures.1 c.put.ensures.places row.ok.0 row.ok.1 c.args.item c.put.ensures.items c.put.ensures.filled in
    λ i. record { mark = record {}; at = (c.attach.ensures.0 ∙ c.detach-row.ensures.left.0) i; slots = slots i }
