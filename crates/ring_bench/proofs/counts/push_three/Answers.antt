use Rattle.std.proofs.Common.{◌≡◌, ◌++◌, [], ◌∷◌, refl, rules, ◌∙◌, append_assoc}
use Rattle.ringbuffer.specs.Contents.{keep_last}
use Rattle.ringbuffer.proofs.Limits.{keep_last-keep_last}
use Rattle.ring_bench.proofs.counts.push_three.Goals as goal

pub returns-clause-contents : goal.returns-clause-contents
returns-clause-contents g c =
    let limit = g.R.RingBuffer.limit c.args.ring.now in
    let one : g.R.RingBuffer.contents c.push.new.self ≡ keep_last limit (g.R.RingBuffer.contents c.args.ring.now ++ c.args.x ∷ []) = search rules in
    let two : g.R.RingBuffer.contents c.push-2.new.self ≡ keep_last limit (g.R.RingBuffer.contents c.push.new.self ++ c.args.y ∷ []) = search rules in
    let three : g.R.RingBuffer.contents c.push-3.new.self ≡ keep_last limit (g.R.RingBuffer.contents c.push-2.new.self ++ c.args.z ∷ []) = search rules in
    three ∙ rw (two, one, keep_last-keep_last, append_assoc, keep_last-keep_last, append_assoc) refl
