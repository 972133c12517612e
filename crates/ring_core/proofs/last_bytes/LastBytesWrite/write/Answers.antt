use Rattle.ring_core.proofs.Words.{◌++◌, append_assoc}
use Rattle.ring_core.proofs.Limits.{keep_last-keep_last}
use Rattle.ring_core.proofs.last_bytes.LastBytesWrite.write.Goals as goal

-- what the limit left before and the new bytes are to it what all bytes are
pub invariant_of-self : goal.invariant_of-self
invariant_of-self g c =
    let old = c.self.inside in let limit = g.R.RingBuffer.limit old.ring in let before = g.R.RingBuffer.contents old.start.value ++ old.since.bytes in
    rw (c.push_newest.ensures.limit, c.push_newest.ensures.contents, c.and-self-inside.ensures, c.self.invariant.1)
    (c.self.invariant.0, rw append_assoc at (keep_last-keep_last limit before c.args.buf.now))
