use Rattle.ring_slots.proofs.Words.{refl, rules, sym}
use Rattle.ring_slots.proofs.Shown.{full-item, shown-write, within}
use Rattle.ring_slots.proofs.copies.CopySlotsRingSlots.get_mut.Goals as goal

pub at_mut-requires : goal.at_mut-requires
at_mut-requires g c = (search rules, within c.self.inside c.self.invariant c.args.place (rw (sym c.self.view_is) at c.requires))

-- Of what is shown, the slot of the cell that was lent is what was written.
pub returns : goal.returns
returns g c =
    let s = c.self.inside in let sized = c.self.invariant in let place = c.args.place in let full = rw (sym c.self.view_is) at c.requires in (
      (
        refl,
        λ w. rw (sym c.self.view_is) (λ i. record { slots = shown-write s sized place full w i; changes = c.after-self-inside.ensures i; capacity = g.row.CAP }),
      ),
      record { writes_back = tt; value = rw (sym c.self.view_is) (full-item s sized place full c.at_mut.result.now c.at_mut.ensures.value) },
    )
