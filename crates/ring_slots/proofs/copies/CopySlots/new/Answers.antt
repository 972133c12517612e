use Rattle.ring_slots.proofs.Words.{length-replicate, replicate}
use Rattle.ring_slots.proofs.Shown.{shown-empty}
use Rattle.ring_slots.proofs.copies.CopySlots.new.Goals as goal

pub returns : goal.returns
returns g c =
    let slots = rw (length-replicate g.row.CAP c.args.filler) at (shown-empty (replicate g.row.CAP c.args.filler)) in
    rw (c.none.ensures, c.of.ensures) (λ i. record { slots = slots i; changes = c.new.ensures i; capacity = g.row.CAP })
