use Rattle.std.proofs.Common.{◌≡◌, ◌∷◌, drop}
use Rattle.window.proofs.Pushed.{first_and_rest}
use Rattle.window.proofs.TwoStacks.{one_fewer}
use Rattle.window.proofs.two_stacks.WindowFolded.dequeue.Goals as goal

-- The oldest item was the first of the older ones.
pub invariant_of-self-2 : goal.invariant_of-self-2
invariant_of-self-2 g c =
    let ks = g.R.RingBuffer.contents c.self.inside.ring in
    let all : c.in_ok-oldest.oldest ∷ drop 1 ks ≡ ks = rw (← c.in_ok-oldest.ensures.value) at (first_and_rest ks) in
    let before = rw (← all) at c.self.invariant in
    rw (c.in_ok-oldest.ensures.rest, c.remove_oldest.ensures.older, c.remove_oldest.ensures.newer)
    (one_fewer {ks = drop 1 ks} before c.remove_oldest.ensures.folded)
