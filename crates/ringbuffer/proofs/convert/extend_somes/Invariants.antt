use Rattle.ringbuffer.proofs.Words.{◌≡◌, ◌++◌, drop, take, keep_last, somes}
use Rattle.ringbuffer.proofs.convert.extend_somes.Given as goal

-- the items before the index came after the old ones, and the other places are as they were
abbrev pub invariant-loop-i : goal.invariant-loop-i
invariant-loop-i g l =
    let R = g.R.RingBuffer in
    record {
      pushed : R.contents l.ring ≡ keep_last (R.limit l.fn.ring) (R.contents l.fn.ring ++ somes (take l.i l.fn.items));
      left : drop l.i l.items ≡ drop l.i l.fn.items;
      same_limit : R.limit l.ring ≡ R.limit l.fn.ring;
    }
