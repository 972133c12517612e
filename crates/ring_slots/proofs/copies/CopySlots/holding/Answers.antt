use Rattle.ring_slots.proofs.Words.{◌≡◌, arith, common_steps, length, replicate, true, rules}
use Rattle.ring_slots.proofs.Shown.{shown-all}
use Rattle.ring_slots.proofs.copies.CopySlots.holding.Goals as goal

pub returns : goal.returns
returns g c =
    let n = g.row.CAP in let long : length c.args.items ≡ n = search rules in
    let marks : c.marked.result.full ≡ replicate n true = rw (c.marked.ensures, c.none.ensures) (grind (arith, common_steps)) in
    let slots = rw long at (shown-all c.args.items) in let count : c.after.result.count ≡ n = omega (arith, c.after.ensures, c.new.ensures) in
    rw marks (λ i. record { slots = slots i; changes = count i; capacity = n })
