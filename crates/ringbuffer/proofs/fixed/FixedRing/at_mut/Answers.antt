use Rattle.ringbuffer.proofs.Words.{arith, refl, sym, ◌∙◌, ap, length-set, after_write}
use Rattle.ringbuffer.proofs.LaysOut.{IsSound-after, LaysOut-write}
use Rattle.ringbuffer.proofs.fixed.FixedRing.at_mut.Goals as goal

-- A write leaves the layout.
pub invariant_of-self-lent : goal.invariant_of-self-lent
invariant_of-self-lent g c =
    let sound = c.self.invariant in let i = c.args.index in let within = rw (sym c.self.view_is) at c.requires in λ w.
    rw (g.met.S.RingSlots.sees_write c.self.inside.slots c.place-place.result w, c.place-place.ensures)
    (IsSound-after sound (LaysOut-write _ _ sound.laid_out i w within) (sound.counted ∙ sym (length-set _ i w)) sound.within)

-- The ring ends as the one with that item written.
pub returns : goal.returns
returns g c =
    let laid_out = c.self.invariant.laid_out in let fit = laid_out.fit in let i = c.args.index in let within = rw (sym c.self.view_is) at c.requires in (
      (
        refl,
        λ w. rw (g.met.S.RingSlots.sees_write c.self.inside.slots c.place-place.result w, c.place-place.ensures) ((LaysOut-write _ _ laid_out i w within).shows ∙ ap (λ v. after_write v i w) c.self.view_is),
      ),
      record { writes_back = tt; value = rw (sym c.self.view_is) (sym (laid_out.layout i (omega arith)) ∙ (rw c.place-place.ensures at c.get_mut.ensures.value)) },
    )
