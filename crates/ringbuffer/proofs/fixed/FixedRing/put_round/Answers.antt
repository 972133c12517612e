use Rattle.ringbuffer.proofs.Words.{common_steps, ap, arith, length, take-append-drop, View, after_puts}
use Rattle.ringbuffer.proofs.SlotsHold.{round}
use Rattle.ringbuffer.proofs.LaysOut.{LaysOut-then}
use Rattle.ringbuffer.proofs.RepeatedSteps.{after_puts-then}
use Rattle.ringbuffer.proofs.fixed.FixedRing.put_round.Goals as goal

pub put_copies-requires-2-clause-place : goal.put_copies-requires-2-clause-place
put_copies-requires-2-clause-place g c =
    λ more. rw c.put_copies.ensures.same_size (round _ c.args.span.len _ (length c.split_at.result.0.now) _ c.place_after-end.ensures (omega arith))

pub put_copies-requires-2-clause-span : goal.put_copies-requires-2-clause-span
put_copies-requires-2-clause-span g c =
    record { laid_out = c.put_copies.ensures.laid_out; len = rw (ap (λ (w : View _). w.items) c.put_copies.ensures.shows) (grind (arith, common_steps)) }

-- The items are put in two stretches.
pub returns : goal.returns
returns g c =
    let two = LaysOut-then (after_puts c.split_at.result.1.now) c.put_copies.ensures c.put_copies-2.ensures in
    rw (after_puts-then c.split_at.result.0.now c.split_at.result.1.now, c.split_at.ensures.front, c.split_at.ensures.back, take-append-drop) at two
