use Rattle.ringbuffer.proofs.Words.{arith, inr, refl, ◌-◌, ◌≡◌}
use Rattle.ringbuffer.proofs.Gap.{all_before, cut_fits, goes_over}
use Rattle.ringbuffer.proofs.fixed.FixedRing.cut_from_back.Goals as goal

-- One more item is on the other side.
pub loop-moved-preserved : goal.loop-moved-preserved
loop-moved-preserved g c =
    let r = c.requires in let n = c.loop-moved.moved in let (left, fit) = cut_fits r.span.laid_out r.span.len c.args.from c.args.to (omega arith) r.within n in
    goes_over c.loop-moved.invariant (omega (arith, left, fit)) (omega arith) _ _ _ (inr (refl, refl, omega arith))
    (omega (arith, left)) (omega (arith, left, c.loop-moved-test.true)) _ _ c.move_item.ensures refl (omega arith)

-- All of them are.
pub returns : goal.returns
returns g c =
    let r = c.requires in let n = c.loop-moved.moved in let (left, fit) = cut_fits r.span.laid_out r.span.len c.args.from c.args.to (omega arith) r.within n in
    let all : n ≡ c.args.span.len - c.args.to = omega (arith, c.loop-moved-test.false, c.loop-moved.auto.moved-end) in
    rw all at (all_before c.loop-moved.invariant r.span.laid_out (omega (arith, left, fit)) refl (omega (arith, left, all)))
