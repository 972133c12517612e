use Rattle.ringbuffer.proofs.Words.{◌≡◌, ◌*◌, ◌+◌, ◌-◌, arith, sym, ◌∙◌}
use Rattle.ringbuffer.proofs.Paired.{list_any-past}
use Rattle.ringbuffer.proofs.two_slices.is_in_slice.Goals as goal

-- None of the next four equals it.
pub loop-turn-preserved : goal.loop-turn-preserved
loop-turn-preserved g c =
    let k = c.loop-turn.turn in let four : 4 * k + 4 - 4 * k ≡ 4 = omega arith in let next : 4 * (k + 1) ≡ 4 * k + 4 = omega arith in
    rw next (list_any-past (λ y. g.T.PartialEq.eq y c.args.x.now) c.args.items.now (4 * k) 4 (rw four at (sym c.contains-in-loop-turn.ensures.value ∙ c.if-contains.false)) ∙ c.loop-turn.invariant)
