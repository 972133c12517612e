use Rattle.std.proofs.Common.{◌≡◌, ap, arith, sym, ◌∙◌, slice_set}
use Rattle.window.proofs.MonotonicQueues.{set_same}
use Rattle.window.proofs.monotonic_queue.set_behind_newest.Goals as goal

-- Where it says 1 already, a write would change nothing.
pub returns-else-behind-ne1-clause-contents : goal.returns-else-behind-ne1-clause-contents
returns-else-behind-ne1-clause-contents g c = λ x at one.
    let rs = g.R.RingBuffer.contents c.args.ring.now in
    let same : x.behind ≡ c.args.behind = omega (arith, one, c.if-behind-ne1.false) in
    sym (ap (λ b. slice_set rs c.args.at (record x { behind = b })) (sym same) ∙ set_same rs c.args.at x at)
