use Rattle.ringbuffer.proofs.Words.{◌-◌, ap}
use Rattle.ringbuffer.proofs.Gap.{LaysApart-cut, LaysOut-takes, LaysOut-truncate, first_emptied, second_emptied}
use Rattle.ringbuffer.proofs.fixed.FixedRing.drop_items.Goals as goal

-- Each stretch is full before it is emptied.
pub empty_stretch-requires-clause-full : goal.empty_stretch-requires-clause-full
empty_stretch-requires-clause-full g c =
    let left = ap (λ n. n - c.args.start) c.size.ensures.value in
    rw (c.min.ensures, c.min-2.ensures) (first_emptied _ _ c.requires.laid_out _ _ _ c.requires.order c.requires.within left)

pub empty_stretch-requires-2-clause-full : goal.empty_stretch-requires-2-clause-full
empty_stretch-requires-2-clause-full g c =
    let left = ap (λ n. n - c.args.start) c.size.ensures.value in
    let first = rw (c.min.ensures, c.min-2.ensures) at c.empty_stretch.ensures in
    rw (c.saturating_sub.ensures, c.saturating_sub-2.ensures) (second_emptied _ _ c.requires.laid_out _ _ _ c.requires.order c.requires.within left _ first)

pub returns : goal.returns
returns g c =
    let r = c.requires in let left = ap (λ n. n - c.args.start) c.size.ensures.value in
    let first = rw (c.min.ensures, c.min-2.ensures) at c.empty_stretch.ensures in
    let second = rw (c.saturating_sub.ensures, c.saturating_sub-2.ensures) at c.empty_stretch-2.ensures in
    let apart = LaysApart-cut _ _ r.laid_out _ _ _ r.order r.within left _ first _ second in
    record { first = LaysOut-takes _ _ _ r.laid_out _ _ r.order r.within apart; last = LaysOut-truncate _ _ _ r.laid_out _ _ r.order r.within apart; apart = apart }
