use Rattle.window.proofs.MonotonicQueues.{least_read}
use Rattle.window.proofs.Pushed.{read_here}
use Rattle.window.proofs.least_window.WindowLeast.least.Goals as goal

pub returns-clause-least : goal.returns-clause-least
returns-clause-least g c =
    let rs = g.R.RingBuffer.contents c.self.inside.ring in
    let (some, below, least) = least_read g.met.O.Order.total rs c.self.inside.first _ _ c.self.invariant c.if-self-eq0.false in
    let read = read_here rs _ _ c.in_ok-candidate.candidate below c.get.ensures.value c.in_ok-candidate.was in
    rw (← c.self.view_is) (least c.in_ok-candidate.candidate.now read)
