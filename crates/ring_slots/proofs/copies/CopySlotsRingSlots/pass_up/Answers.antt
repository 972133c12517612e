use Rattle.ring_slots.proofs.Words.{sym, arith, rules}
use Rattle.ring_slots.proofs.Passed.{as-many_up}
use Rattle.ring_slots.proofs.Shown.{kept, passes, size-seen}
use Rattle.ring_slots.proofs.copies.CopySlotsRingSlots.pass_up.Goals as goal

pub pass_up-requires : goal.pass_up-requires
pass_up-requires g c = (search rules, omega (arith, c.requires.0, size-seen c.self.inside c.self.invariant c.self.view_is))

pub invariant_of-self : goal.invariant_of-self
invariant_of-self g c =
    let keeps = as-many_up c.args.item c.pass_up.result in let full = rw (sym c.self.view_is) at c.requires in
    kept c.self.inside c.self.invariant c.args.from c.args.len full _ keeps _ _ c.marked-self-inside.ensures c.pass_up.ensures

pub returns : goal.returns
returns g c =
    let keeps = as-many_up c.args.item c.pass_up.result in let full = rw (sym c.self.view_is) at c.requires in
    rw (sym c.self.view_is) (passes c.self.inside c.self.invariant c.args.from c.args.len full _ keeps _ _ c.marked-self-inside.ensures c.pass_up.ensures _ c.after-self-inside.ensures)
