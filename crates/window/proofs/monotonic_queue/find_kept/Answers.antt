use Rattle.std.proofs.Common.{[], ◌∷◌, ap, arith, length, length-append, refl, sym, ◌∙◌}
use Rattle.window.proofs.MonotonicQueues.{popped_all, reaches, turn}
use Rattle.window.proofs.monotonic_queue.find_kept.Goals as goal

pub loop-left-init : goal.loop-left-init
loop-left-init g c =
    let (rs, r, is, holds) = c.requires in
    record {
      reaches = reaches g.met.O.Order.total (g.R.RingBuffer.contents c.args.ring.now) rs r c.args.first _ _ _ is (omega (arith, c.len-len.ensures.value, ap length is, length-append rs (r ∷ []))) holds;
      pushed = refl;
      rises = omega arith;
    }

pub returns-then-not-is_above-clause-stops : goal.returns-then-not-is_above-clause-stops
returns-then-not-is_above-clause-stops g c =
    let t = turn g.met.O.Order.total c.loop-left.invariant.reaches c.len-len.ensures.value c.loop-left-test.true c.get-in-loop-left.ensures.value c.unwrap-candidate.ensures c.get.ensures.value c.unwrap-newest.ensures in
    rw c.is_above.ensures.compared (t.stops (sym c.is_above.ensures.value ∙ c.if-not-is_above.true))

pub returns-then-candidate-left-clause-stops : goal.returns-then-candidate-left-clause-stops
returns-then-candidate-left-clause-stops g c =
    let t = turn g.met.O.Order.total c.loop-left.invariant.reaches c.len-len.ensures.value c.loop-left-test.true c.get-in-loop-left.ensures.value c.unwrap-candidate.ensures c.get.ensures.value c.unwrap-newest.ensures in
    rw c.is_above.ensures.compared (t.ends_at c.if-candidate-left.true (sym c.is_above.ensures.value ∙ c.if-not-is_above.false))

pub loop-left-preserved : goal.loop-left-preserved
loop-left-preserved g c =
    let t = turn g.met.O.Order.total c.loop-left.invariant.reaches c.len-len.ensures.value c.loop-left-test.true c.get-in-loop-left.ensures.value c.unwrap-candidate.ensures c.get.ensures.value c.unwrap-newest.ensures in
    let (some, next) = t.goes (omega (arith, c.if-candidate-left.false)) (sym c.is_above.ensures.value ∙ c.if-not-is_above.false) in
    record {
      reaches = rw c.is_above.ensures.compared next;
      pushed = c.loop-left.invariant.pushed;
      rises = omega (arith, c.is_above.ensures.compared, c.loop-left.invariant.rises);
    }

pub loop-left-smaller : goal.loop-left-smaller
loop-left-smaller g c =
    let t = turn g.met.O.Order.total c.loop-left.invariant.reaches c.len-len.ensures.value c.loop-left-test.true c.get-in-loop-left.ensures.value c.unwrap-candidate.ensures c.get.ensures.value c.unwrap-newest.ensures in
    let (some, next) = t.goes (omega (arith, c.if-candidate-left.false)) (sym c.is_above.ensures.value ∙ c.if-not-is_above.false) in
    omega (arith, some, c.if-candidate-left.false)

pub returns-clause-stops : goal.returns-clause-stops
returns-clause-stops g c =
    popped_all g.met.O.Order.total (g.R.RingBuffer.contents c.args.ring.now) c.args.first c.loop-left.left _ _ c.loop-left.invariant.reaches (omega (arith, c.loop-left-test.false))
