use Rattle.ringbuffer.proofs.Words.{◌≡◌, ◌+◌, ◌*◌, View, after_rewrite, arith, ap, ◌∙◌, refl}
use Rattle.ringbuffer.proofs.Stretches.{stretch_is}
use Rattle.ringbuffer.proofs.MadeContiguous.{held_beside, rewritten}
use Rattle.ringbuffer.proofs.fixed.FixedRing.make_contiguous.Goals as goal
use Rattle.ringbuffer.proofs.fixed.FixedRing.make_contiguous.Goals.{After-move_contiguous-start}

-- The slots are counted as the clause says.
four : (g : _) (c : After-move_contiguous-start g) → c.after-changes.result.count ≡ (g.S.RingSlots.seen c.self.inside.slots).changes + 4 * c.self.inside.span.len
four g c = omega (arith, c.after-changes.ensures, c.after-3.ensures, c.after-2.ensures, c.after.ensures, c.changes.ensures)

-- What is written through the loan leaves a sound ring of as many.
pub invariant_of-self-lent : goal.invariant_of-self-lent
invariant_of-self-lent g c = λ w.
    let after = c.move_contiguous-start.ensures in let was = g.S.RingSlots.seen c.move_contiguous-start.new.slots in
    rw (g.met.S.LendsRows.sees_row c.move_contiguous-start.new.slots c.move_contiguous-start.result c.self.inside.span.len c.after-changes.result.count w)
    (rewritten was c.self.invariant after.start after.contiguous after.capacity _ (four g c.before.before.before) w).0

-- The ring ends as the one with those items.
pub returns : goal.returns
returns g c =
    let after = c.move_contiguous-start.ensures in let was = g.S.RingSlots.seen c.move_contiguous-start.new.slots in
    let sound = c.self.invariant in let start = c.move_contiguous-start.result in let len = c.self.inside.span.len in (
      (
        refl,
        λ w. rw (g.met.S.LendsRows.sees_row c.move_contiguous-start.new.slots start len c.after-changes.result.count w)
            ((rewritten was sound after.start after.contiguous after.capacity _ (four g c.before.before.before.before) w).1 ∙ ap (λ v. after_rewrite v w) c.self.view_is),
      ),
      record { writes_back = tt; value = stretch_is _ start len _ _ c.slice_mut.ensures.value (held_beside was sound after.start after.contiguous after.capacity) ∙ ap (λ (v : View _). v.items) c.self.view_is },
    )
