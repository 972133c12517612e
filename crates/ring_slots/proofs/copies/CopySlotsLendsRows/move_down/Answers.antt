use Rattle.ring_slots.proofs.Words.{◌≡◌, ◌+◌, ◌*◌, ◌-◌, sym, arith, length}
use Rattle.ring_slots.proofs.Shown.{seen}
use Rattle.ring_slots.proofs.ShownMoved.{shown-moved_down}
use Rattle.ring_slots.proofs.copies.CopySlotsLendsRows.move_down.Goals as goal

pub returns : goal.returns
returns g c =
    let s = c.self.inside in let from = c.args.from in let asked = rw (sym c.self.view_is) at c.requires in let size = rw (sym c.self.view_is) at c.size.ensures.value in
    let slots = shown-moved_down s c.self.invariant from c.args.to asked.some asked.order asked.full asked.empty in
    let count : c.after-self-inside.result.count ≡ s.changes.count + 2 * (length (seen s c.self.invariant).slots - from) = omega (arith, c.after-self-inside.ensures, c.after.ensures, size) in
    rw (sym c.self.view_is, c.marked-self-inside-2.ensures, c.marked-self-inside.ensures, c.copy_within.ensures, size) (λ i. record { slots = slots i; changes = count i; capacity = g.row.CAP })
