use Rattle.ringbuffer.proofs.Words.{View, ◌∙◌, after_put_first, ap, arith, length}
use Rattle.ringbuffer.proofs.Passed.{put_first_is}
use Rattle.ringbuffer.proofs.fixed.FixedRing.insert.Goals as goal

pub returns-then-index-behind-clause-ok : goal.returns-then-index-behind-clause-ok
returns-then-index-behind-clause-ok g c =
    let len = c.self.invariant.counted ∙ ap (λ (w : View _). length w.items) c.self.view_is in
    let (xs, order, after) = c.pass_down-first.ensures in
    c.put_first.ensures ∙ ap (λ w. after_put_first w c.pass_down-first.result) after ∙ put_first_is c.args.index c.args.self.now _ xs c.args.item (omega (arith, len, c.if-index-behind.true)) c.requires order
