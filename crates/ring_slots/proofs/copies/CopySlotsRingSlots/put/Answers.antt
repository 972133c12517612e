use Rattle.ring_slots.proofs.Words.{sym, arith, rules}
use Rattle.ring_slots.proofs.Shown.{shown-put, size-seen}
use Rattle.ring_slots.proofs.copies.CopySlotsRingSlots.put.Goals as goal

pub put-requires : goal.put-requires
put-requires g c = (search rules, omega (arith, c.requires.0, size-seen c.self.inside c.self.invariant c.self.view_is))

pub returns : goal.returns
returns g c =
    let slots = shown-put c.self.inside c.self.invariant c.args.place c.args.item in
    rw (sym c.self.view_is, c.set-self-inside.ensures, c.put.ensures) (λ i. record { slots = slots i; changes = c.after-self-inside.ensures i; capacity = g.row.CAP })
