use Rattle.std.proofs.Common.{length}
use Rattle.ringbuffer.specs.Contents.{index_at}
use Rattle.window.proofs.Pushed.{lent_here}
use Rattle.window.proofs.monotonic_queue.set_ahead.Goals as goal

pub returns-in-Some-clause-contents : goal.returns-in-Some-clause-contents
returns-in-Some-clause-contents g c = λ x there.
    let rs = g.R.RingBuffer.contents c.args.ring.now in
    let (same, here) = lent_here rs c.args.at x c.in-Some.candidate.now c.requires there c.in-Some.ensures.value in
    rw (same, here) (rw here at (g.met.R.RingBuffer.sets_item c.args.ring.now (index_at (length rs) c.args.at) (record c.in-Some.candidate.now { ahead = c.args.ahead })))
