use Rattle.ringbuffer.proofs.Words.{◌≡◌, ◌*◌, ◌+◌, ◌-◌, arith, sym, ◌∙◌}
use Rattle.ringbuffer.proofs.Paired.{pointwise-past}
use Rattle.ringbuffer.proofs.two_slices.same_items.Goals as goal

-- The next four pairs are equal.
pub loop-turn-preserved : goal.loop-turn-preserved
loop-turn-preserved g c =
    let k = c.loop-turn.turn in let four : 4 * k + 4 - 4 * k ≡ 4 = omega arith in let next : 4 * (k + 1) ≡ 4 * k + 4 = omega arith in
    rw next (pointwise-past g.T.PartialEq.eq c.args.a.now c.args.b.now (4 * k) 4 (omega arith) (rw four at (sym c.eq-same.ensures ∙ c.if-not-same.false)) ∙ c.loop-turn.invariant)
