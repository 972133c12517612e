use Rattle.std.proofs.Common.{arith, rules}
use Rattle.std.proofs.lemmas.List.{length-set}
use Rattle.window.proofs.MonotonicQueues.{ahead_linked, both_linked, joins_after, joins_alone, newest_linked, recounted_to}
use Rattle.window.proofs.monotonic_queue.rank_newest.Goals as goal

pub set_ahead-requires : goal.set_ahead-requires
set_ahead-requires g c =
    let (r, last, read, fits, read_last, holds, items) = joins_after g.met.O.Order.total c.len-len.ensures.value c.find_kept-left.ensures.stops c.if-left-eq0.false in
    omega (arith, c.len-len.ensures.value, fits)

pub set_behind_newest-requires-else-left-eq0 : goal.set_behind_newest-requires-else-left-eq0
set_behind_newest-requires-else-left-eq0 g c =
    let all = g.R.RingBuffer.contents c.args.ring.now in
    let e = c.len-len.ensures.value in
    let (r, last, read, fits, read_last, holds, items) = joins_after g.met.O.Order.total e c.find_kept-left.ensures.stops c.if-left-eq0.false in
    rw (ahead_linked all last c.find_kept-left.result c.len-len.result _ _ _ c.if-left-eq0.false fits read_last c.set_ahead.ensures.contents, length-set) (omega (arith, e, fits))

pub returns-then-left-eq0 : goal.returns-then-left-eq0
returns-then-left-eq0 g c =
    let all = g.R.RingBuffer.contents c.args.ring.now in
    let e = c.len-len.ensures.value in
    let (rs, q, is, held, one, none) = c.requires in
    let (r, read, holds, items) = joins_alone g.met.O.Order.total e c.find_kept-left.ensures.stops c.if-left-eq0.true in
    let written = newest_linked all rs q r c.len-len.result _ all _ is e one none read read c.set_behind_newest.ensures.contents in
    record {
      holds = rw written (recounted_to g.met.O.Order.total holds (omega (arith, c.add_one.ensures)));
      pushed = search rules;
      rises = search rules;
      items = rw written items;
      limit = search rules;
    }

pub returns-else-left-eq0 : goal.returns-else-left-eq0
returns-else-left-eq0 g c =
    let all = g.R.RingBuffer.contents c.args.ring.now in
    let e = c.len-len.ensures.value in
    let (rs, q, is, held, one, none) = c.requires in
    let (r, last, read, fits, read_last, holds, items) = joins_after g.met.O.Order.total e c.find_kept-left.ensures.stops c.if-left-eq0.false in
    let written = both_linked all rs q r last c.find_kept-left.result c.len-len.result _ _ _ is e one none c.if-left-eq0.false fits read read_last c.set_ahead.ensures.contents c.set_behind_newest-else-left-eq0.ensures.contents in
    record {
      holds = rw written (recounted_to g.met.O.Order.total holds (omega (arith, c.add_one.ensures)));
      pushed = search rules;
      rises = search rules;
      items = rw written items;
      limit = search rules;
    }
