use Rattle.ring_slots.proofs.Words.{sym}
use Rattle.ring_slots.proofs.Shown.{shown-take}
use Rattle.ring_slots.proofs.copies.CopySlotsRingSlots.discard.Goals as goal

pub returns : goal.returns
returns g c =
    let slots = shown-take c.self.inside c.self.invariant c.args.place in
    rw (sym c.self.view_is, c.set-self-inside.ensures) (λ i. record { slots = slots i; changes = c.after-self-inside.ensures i; capacity = g.row.CAP })
