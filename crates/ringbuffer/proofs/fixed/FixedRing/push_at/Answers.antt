use Rattle.ringbuffer.proofs.Words.{arith, ◌∙◌}
use Rattle.ringbuffer.proofs.LaysOut.{same_place}
use Rattle.ringbuffer.proofs.fixed.FixedRing.push_at.Goals as goal

pub put_at-requires-clause-place : goal.put_at-requires-clause-place
put_at-requires-clause-place g c =
    let fit = c.requires.span.laid_out.fit in let some = c.requires.some c.if-full.true in
    rw (c.drop_from-start.ensures.after.same_size, c.drop_from-start.ensures.next) (c.requires.place ∙ same_place _ c.args.span.start c.requires.span.laid_out c.args.span.len some (omega (arith, c.requires.span.len)))
