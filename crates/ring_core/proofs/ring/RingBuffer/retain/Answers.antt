use Rattle.ring_core.proofs.Words.{◌++◌, ◌∷◌, ◌∙◌, [], ap, append-nil, arith, drop, false, is_ok, length, length-append, length-drop, rules, sym, true, ◌<◌, ◌≡◌}
use Rattle.std.proofs.Common.{of_calls}
use Rattle.std.specs.Fn.{CalledAt}
use Rattle.std.proofs.lemmas.Fn.{called_at, filter_same}
use Rattle.ring_core.proofs.RetainedItems.{all_asked, first_is_some, nothing_asked, put_back, refused, turn}
use Rattle.ring_core.proofs.ring.RingBuffer.retain.Goals as goal

pub loop-init : goal.loop-init
loop-init g c = record { picks = nothing_asked _ _ _; callable = search of_calls; limit = search rules; changes = λ some. (omega arith, omega arith) }

pub unwrap-item-requires : goal.unwrap-item-requires
unwrap-item-requires g c = rw c.dequeue.ensures.value (first_is_some _ c.loop.invariant.picks (omega arith))

pub loop-preserved-then-not-keep : goal.loop-preserved-then-not-keep
loop-preserved-then-not-keep g c =
    let at = c.loop.invariant in
    let first = sym c.dequeue.ensures.value ∙ c.unwrap-item.ensures in
    record {
      picks = rw c.dequeue.ensures.rest
          (rw append-nil at (turn _ at.picks (omega arith) c.unwrap-item.result first false _ (called_at g.F.FnMut c.keep.ensures c.if-not-keep.true)));
      callable = search of_calls;
      limit = c.dequeue.ensures.limit ∙ at.limit;
      changes = λ some.
          let before = at.changes some in
          let taken = (rw at.limit at c.dequeue.ensures.changes) some in
          (omega arith, omega (arith, ap length c.dequeue.ensures.rest, length-drop 1 (g.Self.RingBuffer.contents c.loop.self)));
    }

pub loop-preserved : goal.loop-preserved
loop-preserved g c =
    let R = g.Self.RingBuffer in
    let at = c.loop.invariant in
    let now = R.contents c.loop.self in
    let item = c.unwrap-item.result in
    let more : c.loop.counter < length (R.contents c.args.self.now) = omega arith in
    let first = sym c.dequeue.ensures.value ∙ c.unwrap-item.ensures in
    let limit = c.dequeue.ensures.limit ∙ at.limit in
    let pushed : R.contents c.push.new.self ≡ drop 1 now ++ item ∷ [] =
    c.push.ensures.ok (ap is_ok c.in-Ok.is) ∙ rw (limit, c.dequeue.ensures.rest) (put_back _ at.picks more item first (R.limit c.args.self.now) c.len-end.ensures.within) in
    record {
      picks = rw pushed (turn _ at.picks more item first true _ (called_at g.F.FnMut c.keep.ensures c.if-not-keep.false));
      callable = search of_calls;
      limit = c.push.ensures.limit ∙ limit;
      changes = λ some.
          let before = at.changes some in
          let taken = (rw at.limit at c.dequeue.ensures.changes) some in
          let back = (rw limit at c.push.ensures.changes) some in
          (omega arith, omega (arith, ap length pushed, length-append (drop 1 now) (item ∷ []), length-drop 1 now, ap length c.dequeue.ensures.rest));
    }

pub returns-in-Err-clause-refused : goal.returns-in-Err-clause-refused
returns-in-Err-clause-refused g c =
    let at = c.loop.invariant in
    let first = sym c.dequeue.ensures.value ∙ c.unwrap-item.ensures in
    let err = c.in-Err.ensures.err in
    rw (err.0, err.1, c.dequeue.ensures.rest) (refused _ at.picks (omega arith) c.unwrap-item.result first _ (called_at g.F.FnMut c.keep.ensures c.if-not-keep.false))

pub returns-clause-filtered : goal.returns-clause-filtered
returns-clause-filtered g c = all_asked _ c.loop.invariant.picks (omega arith)

pub returns-clause-value : goal.returns-clause-value
returns-clause-value g c =
    λ keeps same. filter_same (CalledAt g.F.FnMut) keeps c.args.keep (λ x b q answer. let is = same x b q answer in (is.1, is.0)) _ _ (returns-clause-filtered g c)
