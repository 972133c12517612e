use Rattle.std.proofs.Common.{◌+◌, ◌<◌, ◌∙◌, refl, rules, sym, arith}
use Rattle.window.proofs.Mapped.{map-set}
use Rattle.window.proofs.MonotonicQueues.{first_read, first_within, ranked_behind, ranked_first}
use Rattle.window.proofs.Pushed.{some_read}
use Rattle.window.specs.MonotonicQueue.{item_on}
use Rattle.window.proofs.monotonic_queue.rank_before.Goals as goal

pub returns-then-first-eq0 : goal.returns-then-first-eq0
returns-then-first-eq0 g c =
    let o = g.met.O.Order.total in
    let all = g.R.RingBuffer.contents c.args.ring.now in
    let (q, here) = some_read all c.args.at c.requires.at in
    record {
      ranked = rw (c.set_links.ensures.contents q here) (ranked_first o all c.args.at c.args.first _ _ _ _ q here c.requires.ranked (λ y some there. absurd (omega (arith, some, c.if-first-eq0.true))) (omega arith) (omega (arith, c.add_one.ensures)));
      pushed = search rules;
      items = rw (c.set_links.ensures.contents q here) (map-set item_on all c.args.at q _ here refl);
      limit = search rules;
    }

pub overflow_add-at : goal.overflow_add-at
overflow_add-at g c =
    omega (arith, first_within g.met.O.Order.total (g.R.RingBuffer.contents c.args.ring.now) c.args.at c.args.first _ _ c.requires.ranked (omega arith), c.len.ensures.value, c.len.type_inv)

pub is_above_at-requires : goal.is_above_at-requires
is_above_at-requires g c =
    (c.requires.at, first_within g.met.O.Order.total (g.R.RingBuffer.contents c.args.ring.now) c.args.at c.args.first _ _ c.requires.ranked (omega arith))

pub overflow_add-at-then-is_above_at : goal.overflow_add-at-then-is_above_at
overflow_add-at-then-is_above_at g c =
    omega (arith, first_within g.met.O.Order.total (g.R.RingBuffer.contents c.args.ring.now) c.args.at c.args.first _ _ c.requires.ranked (omega arith), c.len.ensures.value, c.len.type_inv)

pub overflow_add-first : goal.overflow_add-first
overflow_add-first g c =
    omega (arith, first_within g.met.O.Order.total (g.R.RingBuffer.contents c.args.ring.now) c.args.at c.args.first _ _ c.requires.ranked (omega arith), c.len.ensures.value, c.len.type_inv)

pub set_behind-requires : goal.set_behind-requires
set_behind-requires g c =
    first_within g.met.O.Order.total (g.R.RingBuffer.contents c.args.ring.now) c.args.at c.args.first _ _ c.requires.ranked (omega arith)

pub overflow_add-result : goal.overflow_add-result
overflow_add-result g c =
    omega (arith, first_within g.met.O.Order.total (g.R.RingBuffer.contents c.args.ring.now) c.args.at c.args.first _ _ c.requires.ranked (omega arith), c.len.ensures.value, c.len.type_inv)

pub returns-then-is_above_at : goal.returns-then-is_above_at
returns-then-is_above_at g c =
    let o = g.met.O.Order.total in
    let all = g.R.RingBuffer.contents c.args.ring.now in
    let (q, here) = some_read all c.args.at c.requires.at in
    let some : 0 < c.args.first = omega arith in
    let (y, there) = first_read o all c.args.at c.args.first _ _ c.requires.ranked some in
    record {
      ranked = rw (c.set_behind.ensures.contents y there) (ranked_behind o all c.args.at c.args.first _ _ _ _ q y here c.requires.ranked some there (sym (c.is_above_at.ensures.value q y here there) ∙ c.if-is_above_at.true) (omega (arith, c.is_above_at.ensures.compared)) (omega (arith, c.add_one.ensures, c.is_above_at.ensures.pushed)));
      pushed = search rules;
      items = rw (c.set_behind.ensures.contents y there) (map-set item_on all (c.args.at + c.args.first) y _ there refl);
      limit = search rules;
    }

pub returns : goal.returns
returns g c =
    let o = g.met.O.Order.total in
    let all = g.R.RingBuffer.contents c.args.ring.now in
    let (q, here) = some_read all c.args.at c.requires.at in
    record {
      ranked = rw (c.set_links-2.ensures.contents q here) (ranked_first o all c.args.at c.args.first _ _ _ _ q here c.requires.ranked (λ y some there. sym (c.is_above_at.ensures.value q y here there) ∙ c.if-is_above_at.false) (omega (arith, c.is_above_at.ensures.compared)) (omega (arith, c.add_one.ensures, c.is_above_at.ensures.pushed)));
      pushed = search rules;
      items = rw (c.set_links-2.ensures.contents q here) (map-set item_on all c.args.at q _ here refl);
      limit = search rules;
    }
