use Rattle.ring_slots.proofs.Words.{sym}
use Rattle.ring_slots.proofs.Passed.{passes_down}
use Rattle.ring_slots.proofs.array.ArraySlotsRingSlots.pass_down.Goals as goal

pub returns : goal.returns
returns g c = let full = rw (sym c.self.view_is) at c.requires in let (ys, passed, after) = c.pass_item_down.ensures in
    rw (sym c.self.view_is) (passes_down c.self.inside.cells.xs c.pass_item_down.new.self.xs ys c.args.from c.args.len c.args.item c.pass_item_down.result full after _ _ _ c.after-self-inside.ensures passed)
