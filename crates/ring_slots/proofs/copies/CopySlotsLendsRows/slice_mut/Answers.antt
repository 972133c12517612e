use Rattle.ring_slots.proofs.Words.{◌∙◌, refl, sym, arith, cut, length_refill, refill, rules, take}
use Rattle.ring_slots.proofs.Filled.{length-over}
use Rattle.ring_slots.proofs.Shown.{cells-long, size-seen, stretch-shown}
use Rattle.ring_slots.proofs.ShownMoved.{shown-rewritten}
use Rattle.ring_slots.proofs.copies.CopySlotsLendsRows.slice_mut.Goals as goal

pub slice_mut-requires : goal.slice_mut-requires
slice_mut-requires g c = (search rules, omega (arith, c.requires.full.0, size-seen c.self.inside c.self.invariant c.self.view_is))

-- As many cells as were lent are written.
pub invariant_of-self-lent : goal.invariant_of-self-lent
invariant_of-self-lent g c w =
    let full = rw (sym c.self.view_is) at c.requires.full in let xs = c.self.inside.cells.xs in let from = c.args.from in let len = c.args.len in let lent = take len (cut from xs) in
    let many = length_refill len lent w (sym (cells-long c.self.inside c.self.invariant from len full)) in let size = size-seen c.self.inside c.self.invariant c.self.view_is in
    (length-over xs (refill len lent w) from len (sym many) (omega (arith, c.requires.full.0, size, c.self.invariant)) ∙ c.self.invariant.0, c.self.invariant.1)

-- The marks stay, and all of the stretch is full.
pub returns : goal.returns
returns g c =
    let s = c.self.inside in let full = rw (sym c.self.view_is) at c.requires.full in let held = stretch-shown s c.self.invariant c.args.from c.args.len full in (
      (
        refl,
        λ w. rw (sym c.self.view_is) (λ i. record { slots = shown-rewritten s c.self.invariant c.args.from c.args.len w full i; changes = c.args.changes.count; capacity = g.row.CAP }),
      ),
      record { writes_back = tt; value = rw (sym c.self.view_is, c.slice_mut.ensures.value) held },
    )
