use Rattle.std.proofs.Common.{arith, drop}
use Rattle.window.proofs.Pushed.{first_and_rest}
use Rattle.window.proofs.tally_window.WindowTally.dequeue.Goals as goal

-- The oldest item stood before the rest.
pub remove-requires : goal.remove-requires
remove-requires g c =
    let xs = g.R.RingBuffer.contents c.self.inside.ring in
    (drop 1 xs, rw (c.dequeue-oldest.ensures.value, first_and_rest xs) c.self.invariant, rw (c.dequeue-oldest.ensures.value, first_and_rest xs) (omega (arith, c.len.ensures.value, c.len.type_inv)))
