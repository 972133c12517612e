use Rattle.ringbuffer.proofs.Words.{false, true, [], ◌∷◌, ◌++◌}
use Rattle.ringbuffer.proofs.PushedStretch.{PushesOnto-then}
use Rattle.ringbuffer.proofs.Sources.{Gives-one, Gives-then}
use Rattle.ringbuffer.proofs.fixed.FixedRing.push_all.Goals as goal

pub returns-then-not-more : goal.returns-then-not-more
returns-then-not-more g c =
    let (xs, given, so_far) = c.loop-item.invariant in let (ys, more, stretch) = rw c.if-not-more.true at c.push_stretch.ensures in let x = c.in-Some.item in
    let one = Gives-one g.I.Iterator _ _ x c.in-Some.ensures.steps c.in-Some.ensures.goes c.loop-item.iterator.1 in
    let ended = Gives-then g.I.Iterator false _ _ _ xs (x ∷ ys) given (Gives-then g.I.Iterator false _ _ _ (x ∷ []) ys one more) in
    let later = PushesOnto-then c.loop-item.span _ (x ∷ []) ys (c.push_from-old.ensures.after, c.push_from-old.ensures.len) stretch in
    (xs ++ x ∷ ys, (_, ended), PushesOnto-then c.args.span _ xs (x ∷ ys) so_far later)

pub loop-item-preserved : goal.loop-item-preserved
loop-item-preserved g c =
    let (xs, given, so_far) = c.loop-item.invariant in let (ys, more, stretch) = rw c.if-not-more.false at c.push_stretch.ensures in let x = c.in-Some.item in
    let one = Gives-one g.I.Iterator _ _ x c.in-Some.ensures.steps c.in-Some.ensures.goes c.loop-item.iterator.1 in
    let on = Gives-then g.I.Iterator true _ _ _ xs (x ∷ ys) given (Gives-then g.I.Iterator true _ _ _ (x ∷ []) ys one more) in
    let later = PushesOnto-then c.loop-item.span _ (x ∷ []) ys (c.push_from-old.ensures.after, c.push_from-old.ensures.len) stretch in
    (xs ++ x ∷ ys, on, PushesOnto-then c.args.span _ xs (x ∷ ys) so_far later)
