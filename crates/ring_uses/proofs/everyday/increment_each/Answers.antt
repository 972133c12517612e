use Rattle.std.proofs.Common.{◌+◌, ◌%◌, ◌^◌, ◌∙◌}
use Rattle.std.proofs.lemmas.List.{length-set}
use Rattle.ringbuffer.proofs.Walks.{map-step}
use Rattle.ring_uses.proofs.everyday.increment_each.Goals as goal

pub loop-item-preserved : goal.loop-item-preserved
loop-item-preserved g c =
    let s = c.loop-item.walk in
    let done = c.loop-item.invariant in
    let written = g.met.R.RingBuffer.sets_item s.ring.now s.front ((c.in-Some.item.now + 1) % (2 ^ 32)) in
    record {
      same_ring = done.same_ring;
      to_the_end = rw (written, length-set) done.to_the_end;
      left = rw written (map-step (λ x. (x + 1) % (2 ^ 32)) (g.R.RingBuffer.contents s.ring.now) s.front c.in-Some.item.now (rw done.to_the_end at c.in-Some.ensures.value)) ∙ done.left;
      same_limit = g.met.R.RingBuffer.keeps_limit _ _ _ ∙ done.same_limit;
    }
