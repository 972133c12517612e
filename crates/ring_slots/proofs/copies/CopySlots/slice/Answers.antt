use Rattle.ring_slots.proofs.Words.{sym, arith, rules}
use Rattle.ring_slots.proofs.Shown.{size-seen, stretch-shown}
use Rattle.ring_slots.proofs.copies.CopySlots.slice.Goals as goal

pub slice-requires : goal.slice-requires
slice-requires g c = (search rules, omega (arith, c.requires.0, size-seen c.self.inside c.self.invariant c.self.view_is))

pub returns : goal.returns
returns g c =
    let full = rw (sym c.self.view_is) at c.requires in
    rw (sym c.self.view_is, c.slice.ensures) (stretch-shown c.self.inside c.self.invariant c.args.from c.args.len full)
