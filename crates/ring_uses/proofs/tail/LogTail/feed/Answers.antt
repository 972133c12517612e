use Rattle.std.proofs.lemmas.List.{map-append}
use Rattle.ringbuffer.proofs.Limits.{map-keep_last}
use Rattle.ring_uses.proofs.tail.LogTail.feed.Goals as goal

pub returns : goal.returns
returns c = rw (c.push.ensures.pushes, ← c.self.view_is) (simp (map-keep_last, map-append))
