use Rattle.window.proofs.Pushed.{read_is}
use Rattle.window.proofs.monotonic_queue.is_above_at.Goals as goal

pub returns-clause-value : goal.returns-clause-value
returns-clause-value g c = λ x y at_x at_y.
    let rs = g.R.RingBuffer.contents c.args.ring.now in
    let x_is = read_is rs c.args.at _ c.unwrap-x.result x c.get.ensures.value c.unwrap-x.ensures at_x in
    let y_is = read_is rs c.args.other _ c.unwrap-y.result y c.get-2.ensures.value c.unwrap-y.ensures at_y in
    rw (← x_is, ← y_is) c.is_above.ensures.value
