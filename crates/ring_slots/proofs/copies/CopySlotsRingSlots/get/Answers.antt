use Rattle.ring_slots.proofs.Words.{rules, sym}
use Rattle.ring_slots.proofs.Shown.{full-item, within}
use Rattle.ring_slots.proofs.copies.CopySlotsRingSlots.get.Goals as goal

pub at-requires : goal.at-requires
at-requires g c = (search rules, within c.self.inside c.self.invariant c.args.place (rw (sym c.self.view_is) at c.requires))

pub returns : goal.returns
returns g c =
    let full = rw (sym c.self.view_is) at c.requires in
    rw (sym c.self.view_is) (full-item c.self.inside c.self.invariant c.args.place full c.at.result.now c.at.ensures)
