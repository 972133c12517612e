use Rattle.ring_slots.proofs.Words.{◌∙◌, refl, sym, arith, length, length-replicate, replicate, rules, true}
use Rattle.ring_slots.proofs.Filled.{length-over}
use Rattle.ring_slots.proofs.Shown.{shown-filled, size-seen}
use Rattle.ring_slots.proofs.copies.CopySlots.put_copies.Goals as goal

pub put_slice-requires : goal.put_slice-requires
put_slice-requires g c = (search rules, omega (arith, c.requires.0, size-seen c.self.inside c.self.invariant c.self.view_is))

pub invariant_of-self : goal.invariant_of-self
invariant_of-self g c =
    let items = c.args.items.now in let n = length items in let sized = c.self.invariant in let long = size-seen c.self.inside sized c.self.view_is in
    let cells = length-over c.self.inside.cells.xs items c.args.from n refl (omega (arith, c.requires.0, long, sized)) in
    let marks = length-over c.self.inside.marks.full (replicate n true) c.args.from n (length-replicate n true) (omega (arith, c.requires.0, long, sized)) in
    (rw c.put_slice.ensures (cells ∙ sized.0), rw c.marked-self-inside.ensures (marks ∙ sized.1))

pub returns : goal.returns
returns g c =
    let items = c.args.items.now in
    let slots = shown-filled c.self.inside c.self.invariant c.args.from (length items) items refl (omega (arith, c.requires.0, size-seen c.self.inside c.self.invariant c.self.view_is)) in
    rw (sym c.self.view_is, c.marked-self-inside.ensures, c.put_slice.ensures) (λ i. record { slots = slots i; changes = c.after-self-inside.ensures i; capacity = g.row.CAP })
