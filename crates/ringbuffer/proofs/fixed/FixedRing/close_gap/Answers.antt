use Rattle.ringbuffer.proofs.Words.{◌∙◌, append-nil, ap, arith, Slots}
use Rattle.ringbuffer.proofs.MadeContiguous.{stretches, moved_down_contiguous, contiguous_is}
use Rattle.ringbuffer.proofs.fixed.FixedRing.close_gap.Goals as goal

-- Items that reach no further than the last slot lie side by side already.
pub returns-then-span-first-clause-contiguous : goal.returns-then-span-first-clause-contiguous
returns-then-span-first-clause-contiguous g c =
    let within = c.requires.span.laid_out.start_within in
    rw append-nil (contiguous_is _ _ _ within (omega (arith, c.requires.span.len, c.size.ensures.value, c.if-span-first.true)) c.requires.span.laid_out.layout)

pub move_down-requires : goal.move_down-requires
move_down-requires g c =
    let at = c.requires.span in let (last, first, empty) = stretches at.laid_out at.len c.if-span-first.false (omega (arith, c.size.ensures.value)) in
    record { some = at.laid_out.start_within; order = omega (arith, at.laid_out.fit, at.len, c.size.ensures.value); full = last; empty = empty }

-- Once they have moved, they lie side by side from the first slot on.
pub returns-clause-contiguous : goal.returns-clause-contiguous
returns-clause-contiguous g c =
    ap (λ (s : Slots _). s.slots) c.move_down.ensures ∙ moved_down_contiguous c.requires.span.laid_out c.requires.span.len c.if-span-first.false (omega (arith, c.size.ensures.value))
