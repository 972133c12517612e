use Rattle.ring_slots.proofs.Words.{sym, arith, rules}
use Rattle.ring_slots.proofs.Passed.{as-many_down}
use Rattle.ring_slots.proofs.Shown.{kept, passes, size-seen}
use Rattle.ring_slots.proofs.copies.CopySlotsRingSlots.pass_down.Goals as goal

pub pass_down-requires : goal.pass_down-requires
pass_down-requires g c = (search rules, omega (arith, c.requires.0, size-seen c.self.inside c.self.invariant c.self.view_is))

pub invariant_of-self : goal.invariant_of-self
invariant_of-self g c =
    let keeps = as-many_down c.args.item c.pass_down.result in let full = rw (sym c.self.view_is) at c.requires in
    kept c.self.inside c.self.invariant c.args.from c.args.len full _ keeps _ _ c.marked-self-inside.ensures c.pass_down.ensures

pub returns : goal.returns
returns g c =
    let keeps = as-many_down c.args.item c.pass_down.result in let full = rw (sym c.self.view_is) at c.requires in
    rw (sym c.self.view_is) (passes c.self.inside c.self.invariant c.args.from c.args.len full _ keeps _ _ c.marked-self-inside.ensures c.pass_down.ensures _ c.after-self-inside.ensures)
