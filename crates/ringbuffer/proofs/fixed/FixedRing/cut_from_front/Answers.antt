use Rattle.ringbuffer.proofs.Words.{arith, inl, refl, ◌≡◌}
use Rattle.ringbuffer.proofs.Gap.{all_behind, cut_fits, goes_over}
use Rattle.ringbuffer.proofs.fixed.FixedRing.cut_from_front.Goals as goal

-- One more item is on the other side.
pub loop-moved-preserved : goal.loop-moved-preserved
loop-moved-preserved g c =
    let r = c.requires in let n = c.loop-moved.moved in let (left, fit) = cut_fits r.span.laid_out r.span.len c.args.from c.args.to (omega arith) r.within n in
    goes_over c.loop-moved.invariant (omega (arith, left, fit)) (omega arith) _ _ _ (inl (refl, omega (arith, c.loop-moved-test.true), omega arith))
    (omega (arith, left, r.within)) (omega (arith, left, r.within)) _ _ c.move_item.ensures refl (omega arith)

-- All of them are.
pub returns : goal.returns
returns g c =
    let r = c.requires in let n = c.loop-moved.moved in let (left, fit) = cut_fits r.span.laid_out r.span.len c.args.from c.args.to (omega arith) r.within n in
    let all : n ≡ c.args.from = omega (arith, c.loop-moved-test.false, c.loop-moved.auto.moved-end) in
    rw (c.place.ensures, c.loop-moved.invariant.same_size) (rw all at (all_behind c.loop-moved.invariant r.span.laid_out (omega (arith, left, fit)) refl (omega (arith, all))))
