use Rattle.window.proofs.MonotonicQueues.{forgets}
use Rattle.window.proofs.monotonic_queue.forget.Goals as goal

pub returns-clause-holds : goal.returns-clause-holds
returns-clause-holds g c = λ rs compared most is.
    let was = rw c.in_ok-candidate.was at is in
    forgets g.met.O.Order.total c.in_ok-candidate.candidate rs c.args.first.now _ compared most was c.first_after.ensures.one c.first_after.ensures.more
