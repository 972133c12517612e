use Rattle.ring_slots.proofs.Words.{rules, sym}
use Rattle.ring_slots.proofs.Shown.{full-item, shown-take, within}
use Rattle.ring_slots.proofs.copies.CopySlotsRingSlots.take.Goals as goal

pub at-requires : goal.at-requires
at-requires g c = (search rules, within c.self.inside c.self.invariant c.args.place (rw (sym c.self.view_is) at c.requires))

pub returns-clause-value : goal.returns-clause-value
returns-clause-value g c =
    let full = rw (sym c.self.view_is) at c.requires in
    rw (sym c.self.view_is) (full-item c.self.inside c.self.invariant c.args.place full c.at.result.now c.at.ensures)

pub returns-clause-after : goal.returns-clause-after
returns-clause-after g c =
    let slots = shown-take c.self.inside c.self.invariant c.args.place in
    rw (sym c.self.view_is, c.set-self-inside.ensures) (λ i. record { slots = slots i; changes = c.after-self-inside.ensures i; capacity = g.row.CAP })
