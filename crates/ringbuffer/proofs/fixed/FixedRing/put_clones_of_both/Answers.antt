use Rattle.ringbuffer.proofs.Words.{◌≡◌, ◌++◌, after_puts, arith, length, length-append, view_from, MatchResult-weaker}
use Rattle.ringbuffer.proofs.LaysOut.{LaysOut-then}
use Rattle.ringbuffer.proofs.PushedClones.{joined}
use Rattle.ringbuffer.proofs.RepeatedSteps.{after_puts-then}
use Rattle.ringbuffer.proofs.fixed.FixedRing.put_clones_of_both.Goals as goal

-- The second slice goes on after the clones of the first.
pub returns : goal.returns
returns g c =
    let (ys, first, done, (counted, lies)) = c.put_clones-len.ensures in
    let (zs, second, done_more, (counted_more, lies_more)) = c.put_clones.ensures in
    let old = view_from (g.S.RingSlots.seen c.args.slots.now) 0 in
    let longer = length-append ys zs in let both_long = length-append c.args.first.now c.args.second.now in
    let whole : length ys ≡ length c.args.first.now = rw c.in_default.is at done in
    let both = LaysOut-then (after_puts zs) lies lies_more in (
      ys ++ zs,
      joined g.T.Clone.is_clone c.args.first.now c.args.second.now ys zs (omega (arith, whole)) (λ some. absurd (omega (arith, whole, some))) first second,
      MatchResult-weaker c.put_clones.result.1 done_more (λ _ all. omega arith) (λ _ most. (omega (arith, most), most.1)),
      (omega arith, rw (after_puts-then ys zs old) at both),
    )
