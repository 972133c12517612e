use Rattle.std.proofs.Common.{◌*◌, drop}
use Rattle.window.proofs.Pushed.{first_and_rest}
use Rattle.window.proofs.least_window.WindowLeast.dequeue.Goals as goal

pub forget-requires : goal.forget-requires
forget-requires g c =
    let rs = g.R.RingBuffer.contents c.self.inside.ring in
    (drop 1 rs, c.self.inside.counts.compared, 2 * c.self.inside.counts.pushed, rw (c.dequeue-oldest.ensures.value, first_and_rest rs) c.self.invariant)

pub invariant_of-self : goal.invariant_of-self
invariant_of-self g c =
    let rs = g.R.RingBuffer.contents c.self.inside.ring in
    rw c.dequeue-oldest.ensures.rest (c.forget.ensures.holds (drop 1 rs) _ _ (rw (c.dequeue-oldest.ensures.value, first_and_rest rs) c.self.invariant))
