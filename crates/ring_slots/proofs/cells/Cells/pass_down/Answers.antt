use Rattle.ring_slots.proofs.Words.{◌≡◌, ◌+◌, arith, ◌-◌, common_steps}
use Rattle.ring_slots.proofs.cells.Cells.pass_down.Goals as goal

-- The part that was lent is these.
pub returns : goal.returns
returns g c =
    let count : c.args.from + c.args.len - c.args.from ≡ c.args.len = omega arith in
    (c.pass_down.new.items, rw (← count) c.pass_down.ensures, grind (arith, common_steps))
