use Rattle.ring_slots.proofs.Words.{◌≡◌, ◌+◌, ◌*◌, ◌-◌, sym, arith, length}
use Rattle.ring_slots.proofs.Shown.{seen}
use Rattle.ring_slots.proofs.ShownMoved.{shown-brought}
use Rattle.ring_slots.proofs.copies.CopySlotsLendsRows.bring_first.Goals as goal

pub returns : goal.returns
returns g c =
    let s = c.self.inside in let from = c.args.from in let len = c.args.len in let asked = rw (sym c.self.view_is) at c.requires in let size = rw (sym c.self.view_is) at c.size.ensures.value in
    let slots = shown-brought s c.self.invariant from len asked.some asked.room asked.last asked.first asked.empty c.copy_within.new.self.xs c.copy_within-2.new.self.xs (rw size at c.copy_within.ensures) (rw size at c.copy_within-2.ensures) in
    let count : c.after-self-inside.result.count ≡ s.changes.count + 2 * (length (seen s c.self.invariant).slots - from + len) = omega (arith, c.after-self-inside.ensures, c.after.ensures, size) in
    rw (sym c.self.view_is, c.marked-self-inside-2.ensures, c.marked-self-inside.ensures, size) (λ i. record { slots = slots i; changes = count i; capacity = g.row.CAP })
