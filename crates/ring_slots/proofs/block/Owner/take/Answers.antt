use Rattle.ring_slots.proofs.Words.{◌∙◌}
use Rattle.ring_slots.proofs.OneSlot.{took_there}
use Rattle.ring_slots.proofs.SlotsInMemory.{full_within, item_of}
use Rattle.ring_slots.proofs.block.Owner.take.Goals as goal

pub returns-clause-after : goal.returns-clause-after
returns-clause-after g c =
    let row = c.detach-row.result in let full = item_of _ c.requires.full in
    let slots = took_there c.args.self.now.slots c.attach.new.self.slots row c.take-item.new.self c.args.size c.args.place c.requires.size (full_within c.args.self.now.slots c.args.place full.0 full.1) c.detach-row.ensures.row.1 c.attach.ensures.1 c.take-item.ensures.places row.ok.0 row.ok.1 c.take-item.ensures.items c.take-item.ensures.filled in
    λ i. record { mark = record {}; at = (c.attach.ensures.0 ∙ c.detach-row.ensures.left.0) i; slots = slots i }
